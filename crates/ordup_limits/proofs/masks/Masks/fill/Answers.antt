-- The masks have no bit at first.
-- After each step they have the bits of the limits so far, at the objects whose changes count on the scopes of these.
use Rattle.std.proofs.lemmas.Bool.{le-ltb}
use Rattle.std.proofs.lemmas.Nat.Bits.{bit_at-zero}
use Rattle.std.proofs.Common.{arith, sym, ◌≡◌, ◌==◌, ◌<◌, get_or, refl, length}
use Rattle.std.specs.Prelude.{◌&&◌, ◌||◌}
use Rattle.std.proofs.lemmas.List.{get_or_read}
use Rattle.ordup_limits.specs.Masks.{counts_on, has_bit}
use Rattle.ordup_limits.proofs.MaskLemmas.{bits-next}
use Rattle.ordup_limits.proofs.masks.Masks.fill.Goals as goal

pub loop-index-init : goal.loop-index-init
loop-index-init g c = λ x i d below lt. rw (c.requires.empty x, bit_at-zero i, le-ltb i 0 (omega arith)) refl

pub put_scope-requires : goal.put_scope-requires
put_scope-requires g c =
    let known = c.requires.known in
    let same = c.as_slice-limit-items.ensures.limits in
    let limit = c.limit-item.result in
    let lt : c.loop-index.index < length c.args.limits.now = rw same at c.loop-index-test.true in
    let is : limit ≡ get_or c.args.limits.now c.loop-index.index limit = rw same at c.limit-item.is in
    record {
      limit = omega (arith, lt, c.as_slice-limit-items.ensures.few);
      known = (known.0, rw (← is) at (known.1 c.loop-index.index limit lt));
    }

pub loop-index-preserved : goal.loop-index-preserved
loop-index-preserved g c =
    let limits = c.args.limits.now in
    let groups = c.args.groups.now in
    let index = c.loop-index.index in
    let same = c.as_slice-limit-items.ensures.limits in
    let limit = c.limit-item.result in
    let lt : index < length limits = rw same at c.loop-index-test.true in
    let is : limit ≡ get_or limits index limit = rw same at c.limit-item.is in
    λ x i d below small.
    (let here : get_or limits index d ≡ limit = sym (get_or_read limits index limit lt is d) in
    let put : has_bit c.put_scope.new.self i x
    ≡ ((counts_on groups (get_or limits index d).scope x && (i == index)) || has_bit c.loop-index.self i x) =
    rw here (c.put_scope.ensures x i below small) in
    bits-next (λ k. counts_on groups (get_or limits k d).scope x) (has_bit c.loop-index.self i x) (has_bit c.put_scope.new.self i x) i index
    put (c.loop-index.invariant x i d below small))

pub returns : goal.returns
returns g c =
    let same = c.as_slice-limit-items.ensures.limits in
    let all : c.loop-index.index ≡ length c.args.limits.now =
    omega (arith, rw same at c.loop-index-test.false, rw same at c.loop-index.auto.index-end) in
    rw all at c.loop-index.invariant
