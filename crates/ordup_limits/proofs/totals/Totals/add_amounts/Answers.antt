-- The totals before the index have gained their amounts, and the others stand as they did.
-- What a log may weigh and the greatest amount fit into 64 bits together.
use Rattle.std.proofs.Common.{arith, ap, inl, inr, length, get_or, ◌+◌, ◌<◌, ◌∙◌, ◌≡◌, ℕ}
use Rattle.std.proofs.Math.ListN.{length-set}
use Rattle.std.proofs.Math.Nat.{min-le_right}
use Rattle.std.proofs.lemmas.Bool.{cases_eq}
use Rattle.std.proofs.lemmas.Grind.{get_or-set_at}
use Rattle.std.proofs.lemmas.List.{get_or_read, get_or-set_other}
use Rattle.ordup_limits.specs.Sizes.{greatest_amount}
use Rattle.ordup_limits.specs.Totals.{kept_amount}
use Rattle.ordup_limits.proofs.TotalLemmas.{AreAllowed-amounts}
use Rattle.ordup_limits.proofs.totals.Totals.add_amounts.Goals as goal

pub overflow_add-index_mut : goal.overflow_add-index_mut
overflow_add-index_mut g c =
    let totals = c.loop-index.self-inside.totals.items in
    let index = c.loop-index.index in
    let before = c.loop-index.invariant in
    let items = c.as_slice-limit-items.ensures in
    omega (
      arith,
      get_or_read totals _ _ (omega (arith, rw items.limits at c.loop-index-test.true, items.few, before.count)) c.index_mut.ensures.value 0,
      before.rest index (omega arith),
      (rw (← c.self.view_is) at c.requires) index,
      c.kept_amount.ensures,
      min-le_right c.limit-item.result.amount greatest_amount,
    )

pub loop-index-preserved : goal.loop-index-preserved
loop-index-preserved g c =
    let totals = c.loop-index.self-inside.totals.items in
    let index = c.loop-index.index in
    let before = c.loop-index.invariant in
    let items = c.as_slice-limit-items.ensures in
    let there : index < length c.args.limits.now = rw items.limits at c.loop-index-test.true in
    let is : c.limit-item.result ≡ get_or c.args.limits.now index c.limit-item.result = rw items.limits at c.limit-item.is in
    let below : index < length totals = omega (arith, there, items.few, before.count) in
    let now = c.index_mut.result.now + c.kept_amount.result in
    record {
      count = length-set totals index now ∙ before.count;
      raised = λ k d lt. elim (cases_eq k index) [
        | inl here ↦ (let value = get_or-set_at totals index k now 0 here below in
            let was = get_or_read totals _ _ below c.index_mut.ensures.value 0 in
            let first = before.rest index (omega arith) in
            let limit = get_or_read c.args.limits.now index c.limit-item.result there is d in
            rw here (omega (
              arith,
              ap (λ (n : ℕ). n) (rw here at value),
              was,
              first,
              c.kept_amount.ensures,
              ap kept_amount limit,
            )))
        | inr other ↦ get_or-set_other totals index k now 0 other ∙ before.raised k d (omega (arith, lt, other))
      ];
      rest = λ k past. get_or-set_other totals index k now 0 (λ e. absurd (omega (arith, e, past))) ∙ before.rest k (omega (arith, past));
    }

pub returns : goal.returns
returns g c = λ h groups place are.
    (let limits = c.args.limits.now in
    let same = c.as_slice-limit-items.ensures.limits in
    let all : c.loop-index.index ≡ length limits = omega (arith, rw same at c.loop-index-test.false, rw same at c.loop-index.auto.index-end) in
    AreAllowed-amounts h groups limits place c.self.inside.totals.items c.loop-index.self-inside.totals.items (rw (← c.self.view_is) at are)
    (rw all at c.loop-index.invariant.raised) (rw all at c.loop-index.invariant.rest))
