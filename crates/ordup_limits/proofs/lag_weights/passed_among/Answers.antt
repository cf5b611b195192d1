-- A limit outside the mask is not passed, as is required.
-- Each step decides the limit of one bit of the mask, so all are decided once no bit is left.
use Rattle.std.proofs.Common.{arith, ap, sym, refl, ◌∙◌, ◌≡◌, inl, inr, w64, get_or}
use Rattle.std.specs.Prelude.{◌==◌}
use Rattle.std.specs.Int.{trailing_zeros}
use Rattle.std.proofs.Math.Facts.{Fits-lt-pow}
use Rattle.std.proofs.lemmas.Bool.{cases_eq, eq-eqb, ne_eqb, le-ltb}
use Rattle.std.proofs.lemmas.Nat.Bits.{bit_at-zero, bit_at-trailing_zeros, bit_at_clear_other}
use Rattle.ordup_limits.proofs.MaskLemmas.{cleared-less}
use Rattle.ordup_limits.proofs.lag_weights.passed_among.Goals as goal

pub loop-rest-init : goal.loop-rest-init
loop-rest-init g c = λ i few out.
    out ∙ sym (le-ltb (get_or c.args.allowed.now i 0) (get_or c.args.added.now i 0) (c.requires i few out))

pub loop-rest-smaller : goal.loop-rest-smaller
loop-rest-smaller g c =
    let rest = c.loop-rest.rest in
    let low = bit_at-trailing_zeros w64 rest (omega (arith, c.loop-rest-test.true)) (Fits-lt-pow c.loop-rest.auto.rest-fits) in
    cleared-less rest _ low.0 low.1

pub loop-rest-preserved : goal.loop-rest-preserved
loop-rest-preserved g c =
    let rest = c.loop-rest.rest in
    let z = trailing_zeros w64 rest in
    let low = bit_at-trailing_zeros w64 rest (omega (arith, c.loop-rest-test.true)) (Fits-lt-pow c.loop-rest.auto.rest-fits) in
    λ i few out. elim (cases_eq i z) [
      | inl here ↦ c.with_bit-passed.ensures i few ∙ rw (eq-eqb i z here) (rw (here, c.at.ensures, c.at-in-loop-rest.ensures) refl)
      | inr other ↦ c.with_bit-passed.ensures i few ∙ rw (ne_eqb i z other) (c.loop-rest.invariant i few
          (ap (λ n. n == 1) (sym (bit_at_clear_other w64 rest z low.0 i few other)) ∙ out))
    ]

pub returns : goal.returns
returns g c = λ i few.
    (let none : c.loop-rest.rest ≡ 0 = omega (arith, c.loop-rest-test.false) in
    c.loop-rest.invariant i few (rw (none, bit_at-zero i) refl))

pub at-requires : goal.at-requires
at-requires g c =
    let rest = c.loop-rest.rest in
    (bit_at-trailing_zeros w64 rest (omega (arith, c.loop-rest-test.true)) (Fits-lt-pow c.loop-rest.auto.rest-fits)).0

pub at-requires-in-loop-rest : goal.at-requires-in-loop-rest
at-requires-in-loop-rest g c =
    let rest = c.loop-rest.rest in
    (bit_at-trailing_zeros w64 rest (omega (arith, c.loop-rest-test.true)) (Fits-lt-pow c.loop-rest.auto.rest-fits)).0
