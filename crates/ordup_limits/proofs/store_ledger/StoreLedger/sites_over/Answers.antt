-- An update can weigh on the count, on all objects, and on each object of its changes and the groups of that object.
-- Each call adds the bits of its scopes, so in the end a site has its bit where it is over a limit on one of these.
use Rattle.std.proofs.Common.{arith, ap, ◌∙◌, ◌≡◌, ◌<◌, ◌-◌, ◌+◌, length, get_or, take, take_all, []}
use Rattle.ordup_objects.specs.Serial.{set_at}
use Rattle.ordup_log.specs.declared.scope.Scope.TheVariants.{All as Everything, Count}
use Rattle.ordup_limits.specs.Limits.{is_same_scope}
use Rattle.ordup_limits.specs.StoreLedgers.{counts_within, may_weigh, AreOver, StoreLedgerState}
use Rattle.ordup_limits.proofs.SiteLemmas.{may_weigh-start, may_weigh-next, AreOver-or}
use Rattle.ordup_limits.proofs.store_ledger.StoreLedger.sites_over.Goals as goal

pub over_on-over-requires : goal.over_on-over-requires
over_on-over-requires g c = record { known = tt; stands = c.requires.stands }

pub over_on-over-requires-2 : goal.over_on-over-requires-2
over_on-over-requires-2 g c = record { known = tt; stands = c.over_on-over.ensures.stands }

pub set-requires : goal.set-requires
set-requires g c =
    let place : c.place.result ≡ c.args.self.now.added.place =
    c.place.ensures ∙ ap (λ (l : StoreLedgerState). l.added.place) c.self.view_is
    ∙ ap (λ (l : StoreLedgerState). l.added.place) c.over_on-over-2.ensures.rest
    ∙ ap (λ (l : StoreLedgerState). l.added.place) c.over_on-over.ensures.rest in
    record {
      first = omega (arith, place, c.requires.some);
      last = omega (arith, place, c.requires.stands.added.last);
    }

pub loop-change-init : goal.loop-change-init
loop-change-init g c =
    let h = c.args.log.now in
    let groups = c.args.groups.now in
    let l = c.args.self.now in
    let first = c.over_on-over.ensures.rest in
    let second = c.over_on-over-2.ensures.rest in
    let over : AreOver h groups l.added.place l.sites (is_same_scope Count) c.over_on-over-2.result =
    rw first at c.over_on-over-2.ensures.over in
    record {
      rest = second ∙ ap (λ (k : StoreLedgerState). record k { kept = c.over_on-over-2.new.self.kept }) first;
      stands = c.over_on-over-2.ensures.stands;
      over = AreOver-or h groups l.added.place l.sites (is_same_scope Everything) (is_same_scope Count)
          (may_weigh groups []) c.over_on-over.result c.over_on-over-2.result c.over_on-over.ensures.over over
          (λ s known is. may_weigh-start groups s is);
    }

pub over_with-over-requires : goal.over_with-over-requires
over_with-over-requires g c =
    let h = c.args.log.now in
    let l = c.args.self.now in
    let k = c.loop-change.change-index in
    let place : c.place.result ≡ c.args.self.now.added.place =
    c.place.ensures ∙ ap (λ (l : StoreLedgerState). l.added.place) c.self.view_is
    ∙ ap (λ (l : StoreLedgerState). l.added.place) c.over_on-over-2.ensures.rest
    ∙ ap (λ (l : StoreLedgerState). l.added.place) c.over_on-over.ensures.rest in
    let same = c.changes-change-items.ensures.changes ∙ c.set.ensures.set ∙ ap (set_at h) place in
    let lt : k < length (set_at h l.added.place) = rw same at c.loop-change-test.true in
    let at : c.change-item.result ≡ get_or (set_at h l.added.place) k c.change-item.result = rw same at c.change-item.is in
    record {
      object = rw (← at) at ((c.keeps.ensures.legal.known (l.added.place - 1) []
          (omega (arith, c.requires.some, c.requires.stands.added.last)) k c.change-item.result lt).0);
      stands = c.loop-change.invariant.stands;
    }

pub loop-change-preserved : goal.loop-change-preserved
loop-change-preserved g c =
    let h = c.args.log.now in
    let groups = c.args.groups.now in
    let l = c.args.self.now in
    let k = c.loop-change.change-index in
    let place : c.place.result ≡ c.args.self.now.added.place =
    c.place.ensures ∙ ap (λ (l : StoreLedgerState). l.added.place) c.self.view_is
    ∙ ap (λ (l : StoreLedgerState). l.added.place) c.over_on-over-2.ensures.rest
    ∙ ap (λ (l : StoreLedgerState). l.added.place) c.over_on-over.ensures.rest in
    let same = c.changes-change-items.ensures.changes ∙ c.set.ensures.set ∙ ap (set_at h) place in
    let lt : k < length (set_at h l.added.place) = rw same at c.loop-change-test.true in
    let at : c.change-item.result ≡ get_or (set_at h l.added.place) k c.change-item.result = rw same at c.change-item.is in
    let before = c.loop-change.invariant in
    let now = c.over_with-over in
    let over : AreOver h groups l.added.place l.sites (counts_within groups c.change-item.result.object) now.result =
    rw before.rest at now.ensures.over in
    record {
      rest = now.ensures.rest ∙ ap (λ (k : StoreLedgerState). record k { kept = now.new.self.kept }) before.rest;
      stands = now.ensures.stands;
      over = AreOver-or h groups l.added.place l.sites (may_weigh groups (take k (set_at h l.added.place)))
          (counts_within groups c.change-item.result.object) (may_weigh groups (take (k + 1) (set_at h l.added.place))) c.loop-change.over
          now.result before.over over
          (λ s known is. may_weigh-next groups (set_at h l.added.place) k c.change-item.result s lt at is);
    }

pub returns : goal.returns
returns g c =
    let h = c.args.log.now in
    let set = set_at h c.args.self.now.added.place in
    let place : c.place.result ≡ c.args.self.now.added.place =
    c.place.ensures ∙ ap (λ (l : StoreLedgerState). l.added.place) c.self.view_is
    ∙ ap (λ (l : StoreLedgerState). l.added.place) c.over_on-over-2.ensures.rest
    ∙ ap (λ (l : StoreLedgerState). l.added.place) c.over_on-over.ensures.rest in
    let same = c.changes-change-items.ensures.changes ∙ c.set.ensures.set ∙ ap (set_at h) place in
    let end = rw same at c.loop-change-test.false in
    record {
      rest = c.loop-change.invariant.rest;
      stands = c.loop-change.invariant.stands;
      over = rw (take_all c.loop-change.change-index set (omega (arith, end))) at c.loop-change.invariant.over;
    }
