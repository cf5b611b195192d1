use Rattle.std.proofs.Common.{arith, refl, inl, inr, ◌∙◌}
use Rattle.std.proofs.lemmas.Bool.{cases_eq, eq-eqb, ne_eqb}
use Rattle.ordup_limits.proofs.lag_weights.passed_of.Goals as goal

pub loop-index-preserved : goal.loop-index-preserved
loop-index-preserved g c =
    let index = c.loop-index.index in
    λ i lt. elim (cases_eq i index) [
      | inl here ↦ c.with_bit-passed.ensures i (omega arith)
          ∙ rw (eq-eqb i index here) (rw (here, c.at.ensures, c.at-in-loop-index.ensures) refl)
      | inr other ↦ c.with_bit-passed.ensures i (omega arith) ∙ rw (ne_eqb i index other) (c.loop-index.invariant i (omega arith))
    ]
