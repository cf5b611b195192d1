-- The totals before the index are new, whatever was there: what the updates weigh for the limit, or 0 where there is none.
-- In the end each total is before the index.
use Rattle.std.proofs.Common.{arith, inl, inr, length, get_or, ◌<◌, ◌≤◌, ◌*◌, ◌∙◌}
use Rattle.std.proofs.Math.ListN.{length-set}
use Rattle.std.proofs.lemmas.Bool.{cases_eq, cases_lt}
use Rattle.std.proofs.lemmas.Grind.{get_or-set_at}
use Rattle.std.proofs.lemmas.List.{get_or_past, get_or-set_other}
use Rattle.ordup_objects.specs.Sizes.{greatest_weight}
use Rattle.ordup_limits.specs.PassedLimits.{no_limit}
use Rattle.ordup_limits.proofs.ChangeLemmas.{weighed-few}
use Rattle.ordup_limits.proofs.totals.Totals.put_down.Goals as goal

pub loop-i-preserved : goal.loop-i-preserved
loop-i-preserved g c =
    let h = c.args.log.now in
    let groups = c.args.groups.now in
    let limits = c.args.limits.now in
    let totals = c.loop-i.self-inside.totals.items in
    let i = c.loop-i.i in
    let w = c.total_of.result in
    let before = c.loop-i.invariant in
    let total = rw c.as_slice-list.ensures.limits at c.total_of.ensures.total in
    let none = rw c.as_slice-list.ensures.limits at c.total_of.ensures.none in
    let below : i < length totals = omega (arith, c.loop-i-test.true, before.count) in
    let small : w ≤ greatest_weight * c.args.place =
    elim (cases_lt i (length limits)) [
      | inl lt ↦ omega (
        arith,
        total no_limit lt,
        weighed-few h c.keeps.ensures.legal groups c.keeps-2.ensures.groups (get_or limits i no_limit).scope
            (c.requires.known i no_limit lt) c.args.place c.requires.last,
      )
      | inr past ↦ omega (arith, none past)
    ] in
    record {
      count = length-set totals i w ∙ before.count;
      few = λ k lt. elim (cases_eq k i) [
        | inl here ↦ omega (arith, get_or-set_at totals i k w 0 here below, small)
        | inr other ↦ omega (arith, get_or-set_other totals i k w 0 other, before.few k (omega arith))
      ];
      none = λ k lt past. elim (cases_eq k i) [
        | inl here ↦ get_or-set_at totals i k w 0 here below ∙ none (omega (arith, here, past))
        | inr other ↦ get_or-set_other totals i k w 0 other ∙ before.none k (omega arith) past
      ];
      each = λ k d lt there. elim (cases_eq k i) [
        | inl here ↦ get_or-set_at totals i k w 0 here below ∙ rw here (total d (omega (arith, here)))
        | inr other ↦ get_or-set_other totals i k w 0 other ∙ before.each k d (omega arith) there
      ];
    }

pub total_of-requires : goal.total_of-requires
total_of-requires g c = record { last = c.requires.last; known = rw c.as_slice-list.ensures.limits c.requires.known }

pub returns : goal.returns
returns g c =
    let totals = c.loop-i.self-inside.totals.items in
    let all = c.loop-i.invariant in
    record {
      few = λ k. elim (cases_lt k (length totals)) [
        | inl lt ↦ all.few k (omega (arith, all.count, c.loop-i-test.false))
        | inr past ↦ omega (arith, get_or_past totals k 0 past)
      ];
      none = λ k past. elim (cases_lt k (length totals)) [
        | inl lt ↦ all.none k (omega (arith, lt, all.count, c.loop-i-test.false)) past
        | inr beyond ↦ get_or_past totals k 0 beyond
      ];
      each = λ k d lt. all.each k d (omega (arith, lt, c.as_slice-list.ensures.few, c.loop-i-test.false)) lt;
    }
