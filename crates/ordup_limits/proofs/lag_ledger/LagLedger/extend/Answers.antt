-- The masks tell for which limits a change counts, so each total rises by what the new updates weigh on the scope of its
-- limit. It is then the total of the later place. What is allowed does not depend on that.
use Rattle.std.proofs.Common.{arith, ap, refl, length, ◌≤◌}
use Rattle.ordup_limits.specs.LagWeights.{LagWeightsAt}
use Rattle.ordup_limits.specs.Ledgers.{LedgerState}
use Rattle.ordup_limits.specs.LagLedgerInside.{ledger_of}
use Rattle.ordup_limits.proofs.RaisedLemmas.{AreTotals-raised}
use Rattle.ordup_limits.proofs.LedgerLemmas.{StandsFor-prepared}
use Rattle.ordup_limits.proofs.lag_ledger.LagLedger.extend.Goals as goal

pub prepare-requires : goal.prepare-requires
prepare-requires g c = record {
  known = (length c.args.log.now.start, c.requires.stands.known);
  masks = c.requires.stands.masks;
}

pub extend-requires : goal.extend-requires
extend-requires g c =
    let masks = rw (← c.self.view_is) at c.prepare.ensures.masks in
    let rest = rw (← c.self.view_is) at c.prepare.ensures.rest in
    let now = StandsFor-prepared (ledger_of c.self.inside) c.requires.stands rest masks in
    record {
      forward = omega (arith, c.requires.forward, ap (λ (k : LedgerState). k.extended) rest);
      last = c.requires.last;
      objects = now.objects;
      few = now.added.few;
    }

pub invariant_of-self : goal.invariant_of-self
invariant_of-self g c =
    let before = c.self.invariant in
    record {
      ledger = record {
        few = before.ledger.few;
        last = omega (arith, ap (λ (w : LagWeightsAt). w.extended) c.extend.ensures.rest, c.requires.last, c.keeps.ensures.few);
        empty = before.ledger.empty;
      };
      count = before.count;
    }

pub returns : goal.returns
returns g c =
    let masks = rw (← c.self.view_is) at c.prepare.ensures.masks in
    let rest = rw (← c.self.view_is) at c.prepare.ensures.rest in
    let now = StandsFor-prepared (ledger_of c.self.inside) c.requires.stands rest masks in
    let forward : c.self.inside.weights.extended ≤ c.args.to = omega (arith, c.requires.forward, ap (λ (k : LedgerState). k.extended) rest) in
    rw c.extend.ensures.rest (record {
      limits = ap (λ (k : LedgerState). k.limits) rest;
      places = (ap (λ (k : LedgerState). k.reported) rest, refl);
      stands = record {
        objects = now.objects;
        known = now.known;
        extended = c.requires.last;
        reported = now.reported;
        added = AreTotals-raised c.self.inside.masks c.keeps.ensures.legal c.keeps-2.ensures.groups now.known now.objects
            c.self.invariant.ledger.few masks forward c.requires.last now.added c.extend.ensures.added;
        allowed = now.allowed;
        masks = now.masks;
      };
    })
