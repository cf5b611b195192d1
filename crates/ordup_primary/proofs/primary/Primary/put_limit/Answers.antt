-- The limit changes in the table of the site and in its ledger alike, and only from the head on, which is not decided.
-- Where the table is refused memory, neither has changed.
use Rattle.std.proofs.Common.{arith, ap, refl, sym, subst, ◌≡◌, ◌<◌, ◌+◌, ◌∙◌, [], length, get_or}
use Rattle.std.proofs.Math.ListN.{set}
use Rattle.std.proofs.lemmas.List.{get_or_read, set-get_or}
use Rattle.ordup_limits.specs.Entries.{Entries, entry_of, changed, AreEntries, HoldFrom}
use Rattle.ordup_primary.specs.Primaries.{PrimaryState, limits_at}
use Rattle.ordup_primary.specs.PrimaryInside.{state_of}
use Rattle.ordup_primary.proofs.RelimitLemmas.{known-in_log, IsPrimary-relimited, HasLedger-relimited}
use Rattle.ordup_primary.proofs.primary.Primary.put_limit.Goals as goal

pub invariant_of-self : goal.invariant_of-self
invariant_of-self g c =
    let tables = c.self.inside.limits.items in
    let same : set tables c.index-index.result c.change.new.self ≡ tables =
    ap (set tables c.index-index.result) (c.in_default.ensures.err ∙ c.index_mut.ensures.value)
    ∙ set-get_or tables c.index-index.result c.index_mut.result.now in
    record {
      primary = rw same c.self.invariant.primary;
      ledger = rw same c.self.invariant.ledger;
      kept = c.self.invariant.kept;
    }

pub change-requires-2-clause-site : goal.change-requires-2-clause-site
change-requires-2-clause-site g c = omega (arith, rw (← c.self.view_is) at c.requires.site, c.self.invariant.ledger.count)

pub change-requires-2-clause-known : goal.change-requires-2-clause-known
change-requires-2-clause-known g c =
    rw c.groups-groups.ensures.groups (known-in_log (state_of c.self.inside) c.args.scope.now c.self.invariant.primary
    (rw (← c.self.view_is) at c.requires.known))

pub change-requires-2-clause-stands : goal.change-requires-2-clause-stands
change-requires-2-clause-stands g c = rw c.groups-groups.ensures.groups c.self.invariant.ledger.stand

pub invariant_of-self-2 : goal.invariant_of-self-2
invariant_of-self-2 g c =
    let p = state_of c.self.inside in
    let tables = c.self.inside.limits.items in
    let sound = c.self.invariant.primary in
    let there = rw (← c.self.view_is) at c.requires.site in
    let inside : c.index-index.result < length tables = omega (arith, there, c.index-index.ensures, sound.tables) in
    let read : c.index.result.now ≡ limits_at p c.args.site =
    get_or_read tables c.index-index.result c.index.result.now inside c.index.ensures []
    ∙ ap (λ k. get_or tables k []) c.index-index.ensures in
    let keep : AreEntries (limits_at p c.args.site) = rw read at c.keeps.ensures in
    let e = entry_of c.args.scope.now c.args.amount (c.self.inside.acked + 1) in
    let old : c.index_mut.result.now ≡ limits_at p c.args.site =
    get_or_read tables c.index-index.result c.index_mut.result.now inside c.index_mut.ensures.value []
    ∙ ap (λ k. get_or tables k []) c.index-index.ensures in
    let stored : set tables c.index-index.result c.change.new.self ≡ set tables c.args.site (changed (limits_at p c.args.site) e) =
    ap (set tables c.index-index.result) (c.in-Ok.ensures.changed ∙ ap (λ (entries : Entries). changed entries e) old)
    ∙ ap (λ k. set tables k (changed (limits_at p c.args.site) e)) c.index-index.ensures in
    let allowed = rw (← c.self.view_is) at c.requires.allowed in
    let known = rw (← c.self.view_is) at c.requires.known in
    let made = c.change-2.ensures in
    record {
      primary = rw stored (IsPrimary-relimited p c.args.site c.args.scope.now c.args.amount sound there keep known allowed);
      ledger = rw stored (HasLedger-relimited p c.args.site c.args.scope.now c.args.amount c.self.inside.ledger c.change-2.new.self sound
          c.self.invariant.ledger there keep (rw c.groups-groups.ensures.groups at made.stands) made.place made.count made.others
          made.reported (rw c.groups-groups.ensures.groups at made.limits));
      kept = c.self.invariant.kept;
    }

pub returns : goal.returns
returns g c =
    let p = state_of c.self.inside in
    let tables = c.self.inside.limits.items in
    let sound = c.self.invariant.primary in
    let there = rw (← c.self.view_is) at c.requires.site in
    let inside : c.index-index.result < length tables = omega (arith, there, c.index-index.ensures, sound.tables) in
    let read : c.index.result.now ≡ limits_at p c.args.site =
    get_or_read tables c.index-index.result c.index.result.now inside c.index.ensures []
    ∙ ap (λ k. get_or tables k []) c.index-index.ensures in
    let keep : AreEntries (limits_at p c.args.site) = rw read at c.keeps.ensures in
    let e = entry_of c.args.scope.now c.args.amount (c.self.inside.acked + 1) in
    let old : c.index_mut.result.now ≡ limits_at p c.args.site =
    get_or_read tables c.index-index.result c.index_mut.result.now inside c.index_mut.ensures.value []
    ∙ ap (λ k. get_or tables k []) c.index-index.ensures in
    let stored : set tables c.index-index.result c.change.new.self ≡ set tables c.args.site (changed (limits_at p c.args.site) e) =
    ap (set tables c.index-index.result) (c.in-Ok.ensures.changed ∙ ap (λ (entries : Entries). changed entries e) old)
    ∙ ap (λ k. set tables k (changed (limits_at p c.args.site) e)) c.index-index.ensures in
    record {
      changed = rw (← c.self.view_is) (ap (λ limits. let q : PrimaryState = record p { limits = limits } in q) stored);
      refused = tt;
      err = tt;
    }

pub overflow_add-head : goal.overflow_add-head
overflow_add-head g c =
    let is = c.self.invariant.primary in
    omega (arith, is.acked, is.decided, is.few)

pub change-requires : goal.change-requires
change-requires g c =
    let is = c.self.invariant.primary in
    let inside : c.index-index.result < length c.self.inside.limits.items =
    omega (arith, rw (← c.self.view_is) at c.requires.site, c.index-index.ensures, is.tables) in
    record {
      begun = omega arith;
      last = subst (HoldFrom (c.self.inside.acked + 1)) (sym c.index_mut.ensures.value)
          (is.begun c.index-index.result c.index_mut.result.now inside);
    }

pub returns-in_default : goal.returns-in_default
returns-in_default g c =
    let tables = c.self.inside.limits.items in
    let same : set tables c.index-index.result c.change.new.self ≡ tables =
    ap (set tables c.index-index.result) (c.in_default.ensures.err ∙ c.index_mut.ensures.value)
    ∙ set-get_or tables c.index-index.result c.index_mut.result.now in
    record {
      changed = tt;
      refused = refl;
      err =
          rw (← c.self.view_is) (ap (λ limits. let q : PrimaryState = record (state_of c.self.inside) { limits = limits } in q) same);
    }

pub index-requires : goal.index-requires
index-requires g c =
    omega (arith, rw (← c.self.view_is) at c.requires.site, c.index-index.ensures, c.self.invariant.primary.tables)

pub index_mut-requires : goal.index_mut-requires
index_mut-requires g c =
    omega (arith, rw (← c.self.view_is) at c.requires.site, c.index-index.ensures, c.self.invariant.primary.tables)
