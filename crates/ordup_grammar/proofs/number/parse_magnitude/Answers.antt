use Rattle.std.proofs.Common.{ℕ, ◌+◌, ◌^◌, ◌≤◌, arith, lit<}
use Rattle.std.proofs.Math.Nat.{pow-le-pow_right}
use Rattle.std.proofs.lemmas.Grind.{common_steps}
use Rattle.ordup_grammar.proofs.number.parse_magnitude.Goals as goal

-- before the nineteenth digit the number is short
short_before_last : (magnitude index : ℕ) → magnitude + 1 ≤ 10 ^ index → index ≤ 18 → magnitude + 1 ≤ 10 ^ 18
short_before_last magnitude index below early =
    let most : 10 ^ index ≤ 10 ^ 18 = pow-le-pow_right {n = 10} (lit< tt) early in
    omega (arith, below, most)

pub overflow_mul-magnitude : goal.overflow_mul-magnitude
overflow_mul-magnitude c = omega (arith, short_before_last _ _ c.loop-digit.invariant.bound (omega arith))

pub overflow_add-magnitude : goal.overflow_add-magnitude
overflow_add-magnitude c = omega (arith, short_before_last _ _ c.loop-digit.invariant.bound (omega arith))

pub loop-digit-preserved : goal.loop-digit-preserved
loop-digit-preserved c = grind (arith, common_steps)
