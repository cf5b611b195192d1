-- The weights at the index of the scope are made anew from the log, and all others stay.
-- A scope that had a limit has its bits in the masks already, and a new one gets them.
use Rattle.std.proofs.Common.{arith, ap, sym, length, ◌∙◌}
use Rattle.std.proofs.lemmas.Bool.{true≢false}
use Rattle.ordup_log.specs.Spans.{IsScopeKnown}
use Rattle.ordup_limits.specs.declared.limit.Limit.{Limit}
use Rattle.ordup_limits.specs.Entries.{put}
use Rattle.ordup_limits.specs.LagWeights.{LagWeightsAt}
use Rattle.ordup_limits.specs.Ledgers.{LedgerState}
use Rattle.ordup_limits.specs.LagLedgerInside.{ledger_of}
use Rattle.ordup_limits.specs.Limits.{are_on_one_scope}
use Rattle.ordup_limits.proofs.ChangeLemmas.{index-small, weighed-few, AreTotals-put, AreAllowed-put, AreMasks-put}
use Rattle.ordup_limits.proofs.LedgerLemmas.{StandsFor-prepared}
use Rattle.ordup_limits.proofs.PutLemmas.{All-put}
use Rattle.ordup_limits.proofs.lag_ledger.LagLedger.change.Goals as goal

pub prepare-requires : goal.prepare-requires
prepare-requires g c = record {
  known = (length c.args.log.now.start, c.requires.stands.known);
  masks = c.requires.stands.masks;
}

pub put_scope-requires : goal.put_scope-requires
put_scope-requires g c =
    let l : Limit = record { scope = c.args.scope; amount = c.args.amount } in
    let rest = rw (← c.self.view_is) at c.prepare.ensures.rest in
    record {
      limit = index-small c.args.self.now.limits c.self.inside.limits l c.index_for-index.result (ap (λ (k : LedgerState). k.limits) rest)
          c.index_for-index.ensures c.requires.spare c.self.invariant.ledger.few;
      known = (length c.args.log.now.start, c.requires.known);
    }

pub put-requires : goal.put-requires
put-requires g c =
    let l : Limit = record { scope = c.args.scope; amount = c.args.amount } in
    let masks = rw (← c.self.view_is) at c.prepare.ensures.masks in
    let rest = rw (← c.self.view_is) at c.prepare.ensures.rest in
    let now = StandsFor-prepared (ledger_of c.self.inside) c.requires.stands rest masks in
    record {
      index = index-small c.args.self.now.limits c.self.inside.limits l c.index_for-index.result (ap (λ (k : LedgerState). k.limits) rest)
          c.index_for-index.ensures c.requires.spare c.self.invariant.ledger.few;
      known = c.requires.known;
      reported = now.reported;
      extended = now.extended;
    }

pub put-requires-2 : goal.put-requires-2
put-requires-2 g c =
    let l : Limit = record { scope = c.args.scope; amount = c.args.amount } in
    let rest = rw (← c.self.view_is) at c.prepare.ensures.rest in
    rw (ap (λ (k : LedgerState). k.limits) rest) c.requires.spare

pub invariant_of-self : goal.invariant_of-self
invariant_of-self g c =
    let before = c.self.invariant in
    let rest = rw (← c.self.view_is) at c.prepare.ensures.rest in
    record {
      ledger = record {
        few = c.least_count-self-inside.ensures.few;
        last = omega (arith, ap (λ (w : LagWeightsAt). w.extended) c.put.ensures.rest, before.ledger.last);
        empty = λ e x. absurd (true≢false (sym (ap (λ (s : LedgerState). s.has_masks) rest) ∙ e));
      };
      count = c.least_count-self-inside.ensures.least;
    }

pub returns : goal.returns
returns g c =
    let h = c.args.log.now in
    let groups = c.args.groups.now in
    let l : Limit = record { scope = c.args.scope; amount = c.args.amount } in
    let limits = c.self.inside.limits in
    let index = c.index_for-index.result in
    let masks = rw (← c.self.view_is) at c.prepare.ensures.masks in
    let rest = rw (← c.self.view_is) at c.prepare.ensures.rest in
    let now = StandsFor-prepared (ledger_of c.self.inside) c.requires.stands rest masks in
    let legal = c.keeps.ensures.legal in
    let are = c.keeps-2.ensures.groups in
    rw (c.put-2.ensures, c.put.ensures.rest) (record {
      limits = ap (λ (k : LedgerState). put are_on_one_scope k.limits l) rest;
      places = (ap (λ (k : LedgerState). k.reported) rest, ap (λ (k : LedgerState). k.extended) rest);
      stands = record {
        objects = now.objects;
        known = All-put (λ (m : Limit). IsScopeKnown (length h.start) groups m.scope) are_on_one_scope limits l now.known c.requires.known;
        reported = now.reported;
        extended = now.extended;
        added = AreTotals-put h groups limits l c.self.inside.weights.extended index c.self.inside.weights.added _ now.added
            c.index_for-index.ensures c.put.ensures.added
            (weighed-few h legal groups are l.scope c.requires.known c.self.inside.weights.extended now.extended);
        allowed = AreAllowed-put h groups limits l c.self.inside.weights.reported index c.self.inside.weights.allowed _ now.allowed
            c.index_for-index.ensures c.put.ensures.allowed
            (weighed-few h legal groups are l.scope c.requires.known c.self.inside.weights.reported now.reported);
        masks = λ e. AreMasks-put groups limits l index c.self.inside.masks c.put_scope.new.self masks c.index_for-index.ensures
            c.put_scope.ensures;
      };
    })
