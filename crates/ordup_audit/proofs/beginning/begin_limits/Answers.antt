-- Each entry that begins makes the ledger's limits those of one entry more.
-- The entries rise by place, so where one is later, all after it are later too.
use Rattle.std.proofs.Common.{◌+◌, ◌≤◌, ◌∙◌, ap, arith, get_or, length, refl}
use Rattle.std.proofs.lemmas.List.{get_or_default, length-drop}
use Rattle.std.proofs.lemmas.List.Elements.{All-more}
use Rattle.ordup_limits.specs.declared.limit_entry.LimitEntry.{LimitEntry}
use Rattle.ordup_limits.specs.Limits.{Limits}
use Rattle.ordup_limits.proofs.EntryLemmas.{later-drop, latest-take}
use Rattle.ordup_audit.proofs.BeginningLemmas.{latest-next}
use Rattle.ordup_audit.proofs.beginning.begin_limits.Goals as goal

pub loop-count-init : goal.loop-count-init
loop-count-init g c = record {
  more = omega arith;
  upto = c.requires.begun;
  limits = c.requires.limits;
  places = (refl, refl);
  stands = c.requires.stands;
}

pub change-requires : goal.change-requires
change-requires g c =
    let entries = c.args.entries.now in
    let i = c.loop-count.count in
    let lt = c.loop-count-test.true in
    let first = c.index-entries-count-in-loop-count.result in
    let second = c.index-entries-count-in-loop-count-2.result in
    let next = latest-next entries i first c.loop-count.ledger.limits (get_or entries i first).limit.scope
    (get_or entries i second).limit.amount lt c.loop-count.invariant.limits refl
    (ap (λ (e : LimitEntry). e.limit.amount) (get_or_default entries i second first lt)) in
    record {
      spare = omega (arith, ap (λ (ls : Limits). length ls) next, latest-take entries (i + 1), c.requires.scopes);
      known = c.requires.known i first lt;
      stands = c.loop-count.invariant.stands;
    }

pub loop-count-preserved : goal.loop-count-preserved
loop-count-preserved g c =
    let entries = c.args.entries.now in
    let i = c.loop-count.count in
    let lt = c.loop-count-test.true in
    let before = c.loop-count.invariant in
    let first = c.index-entries-count-in-loop-count.result in
    let second = c.index-entries-count-in-loop-count-2.result in
    let next = latest-next entries i first c.loop-count.ledger.limits (get_or entries i first).limit.scope
    (get_or entries i second).limit.amount lt before.limits refl
    (ap (λ (e : LimitEntry). e.limit.amount) (get_or_default entries i second first lt)) in
    record {
      more = omega (arith, before.more);
      upto = All-more (λ (e : LimitEntry). e.place ≤ c.args.place) entries i c.index-entries-count.result lt before.upto
          c.if-entries-count.true;
      limits = c.change.ensures.limits ∙ next;
      places = (c.change.ensures.places.0 ∙ before.places.0, c.change.ensures.places.1 ∙ before.places.1);
      stands = c.change.ensures.stands;
    }

pub returns-else-entries-count : goal.returns-else-entries-count
returns-else-entries-count g c =
    let inside = c.loop-count.invariant in
    let entries = c.args.entries.now in
    let i = c.loop-count.count in
    let tested = c.index-entries-count.result in
    record {
      more = inside.more;
      begun = record {
        upto = inside.upto;
        later = later-drop entries c.args.place i (get_or entries i tested) c.requires.rising c.loop-count-test.true
            (get_or_default entries i tested (get_or entries i tested) c.loop-count-test.true) c.if-entries-count.false;
      };
      limits = inside.limits;
      places = inside.places;
      stands = inside.stands;
    }

pub returns-after-loop-count : goal.returns-after-loop-count
returns-after-loop-count g c =
    let inside = c.loop-count.invariant in
    record {
      more = inside.more;
      begun = record {
        upto = inside.upto;
        later = λ k d lt. absurd (omega (
          arith,
          lt,
          length-drop c.loop-count.count c.args.entries.now,
          c.loop-count-test.false,
        ));
      };
      limits = inside.limits;
      places = inside.places;
      stands = inside.stands;
    }
