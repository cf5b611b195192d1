-- Each group counts as a limit on it, which has the index of the group. Its amount does not matter.
-- A group before the index has its bit at its members.
use Rattle.std.proofs.lemmas.Bool.{le-ltb}
use Rattle.std.proofs.lemmas.Nat.Bits.{bit_at-zero}
use Rattle.std.proofs.Common.{arith, refl, ◌≡◌, ◌==◌, get_or, length}
use Rattle.std.specs.Prelude.{◌&&◌, ◌||◌}
use Rattle.ordup_objects.specs.Sizes.{most_objects}
use Rattle.ordup_limits.specs.Masks.{group_limits, counts_on, has_bit}
use Rattle.ordup_limits.proofs.MaskLemmas.{bits-next}
use Rattle.ordup_limits.proofs.GroupBitLemmas.{group_limits-at, group_limits-length}
use Rattle.ordup_limits.proofs.TotalLemmas.{none_at}
use Rattle.ordup_limits.proofs.masks.Masks.of_groups.Goals as goal

pub loop-index-init : goal.loop-index-init
loop-index-init g c = λ x i d below lt.
    rw (c.in_ok-masks.ensures.masks, none_at most_objects x, bit_at-zero i, le-ltb i 0 (omega arith)) refl

pub loop-index-preserved : goal.loop-index-preserved
loop-index-preserved g c =
    let groups = c.args.groups.now in
    let index = c.loop-index.index in
    λ x i d below lt.
    (let group = group_limits-at (length groups) index d (omega (arith, c.loop-index-test.true, c.len-index-end.ensures.len)) in
    let put : has_bit c.put_scope.new.self i x
    ≡ ((counts_on groups (get_or (group_limits (length groups)) index d).scope x && (i == index)) || has_bit c.loop-index.masks i x) =
    rw group (rw c.new-group.ensures at (c.put_scope.ensures x i below lt)) in
    bits-next (λ k. counts_on groups (get_or (group_limits (length groups)) k d).scope x) (has_bit c.loop-index.masks i x)
    (has_bit c.put_scope.new.self i x) i index put (c.loop-index.invariant x i d below lt))

pub returns-clause-masks : goal.returns-clause-masks
returns-clause-masks g c =
    let groups = c.args.groups.now in
    let all : c.loop-index.index ≡ length (group_limits (length groups)) =
    omega (arith, c.loop-index-test.false, c.loop-index.auto, c.len-index-end.ensures.len, group_limits-length (length groups)) in
    λ x i d below lt. rw all at (c.loop-index.invariant x i d below lt)
