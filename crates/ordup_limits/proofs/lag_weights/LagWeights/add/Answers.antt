-- Each step adds the weight for the limit of the lowest bit, and no total falls. So the mask of passed limits is right again
-- once it has the bit of this limit, where its total is now above what is allowed.
use Rattle.std.proofs.Common.{arith, ap, refl, sym, true, get_or, ◌≡◌, ◌<◌, ◌≤◌, ◌+◌, ◌∙◌, ℕ, w64}
use Rattle.std.specs.Prelude.{◌==◌}
use Rattle.std.specs.Int.{bit_at, trailing_zeros}
use Rattle.std.proofs.Math.Facts.{Fits-lt-pow}
use Rattle.std.proofs.lemmas.Bool.{eq-eqb, ne_eqb, lt-ltb}
use Rattle.std.proofs.lemmas.Nat.Bits.{bit_at-trailing_zeros, bit_at-zero}
use Rattle.ordup_limits.specs.declared.lag_weights.LagWeights.TheInside.{Inside}
use Rattle.ordup_limits.specs.LagWeightsInside.{lag_weights_of}
use Rattle.ordup_limits.specs.Sizes.{most_limits}
use Rattle.ordup_limits.proofs.MaskLemmas.{cleared-less, share-most, share-next}
use Rattle.ordup_limits.proofs.PassedLemmas.{ArePassed-kept, ArePassed-put}
use Rattle.ordup_limits.proofs.lag_weights.LagWeights.add.Goals as goal
use Rattle.ordup_limits.proofs.lag_weights.LagWeights.add.Goals.{then-total-at, else-total-at}

pub loop-rest-init : goal.loop-rest-init
loop-rest-init g c = record {
  rest = refl;
  totals = λ k lt. refl;
  others = λ k past. refl;
  passed = c.self.invariant.passed;
  fits = c.self.invariant.fits;
}

pub at-requires : goal.at-requires
at-requires g c =
    let rest = c.loop-rest.rest in
    let low = bit_at-trailing_zeros w64 rest (omega (arith, c.loop-rest-test.true)) (Fits-lt-pow c.loop-rest.auto.rest-fits) in
    low.0

pub overflow_add-total : goal.overflow_add-total
overflow_add-total g c =
    let rest = c.loop-rest.rest in
    let low = bit_at-trailing_zeros w64 rest (omega (arith, c.loop-rest-test.true)) (Fits-lt-pow c.loop-rest.auto.rest-fits) in
    let index = trailing_zeros w64 rest in
    omega (
      arith,
      c.at.ensures,
      c.loop-rest.invariant.totals index low.0,
      share-most (bit_at c.args.mask index == 1) c.args.weight,
      (rw (← c.self.view_is) at c.requires.few) index,
      c.requires.weight,
    )

pub put-requires : goal.put-requires
put-requires g c =
    let rest = c.loop-rest.rest in
    let low = bit_at-trailing_zeros w64 rest (omega (arith, c.loop-rest-test.true)) (Fits-lt-pow c.loop-rest.auto.rest-fits) in
    low.0

pub at-requires-in-loop-rest : goal.at-requires-in-loop-rest
at-requires-in-loop-rest g c =
    let rest = c.loop-rest.rest in
    let low = bit_at-trailing_zeros w64 rest (omega (arith, c.loop-rest-test.true)) (Fits-lt-pow c.loop-rest.auto.rest-fits) in
    low.0

pub loop-rest-smaller : goal.loop-rest-smaller
loop-rest-smaller g c =
    let rest = c.loop-rest.rest in
    let low = bit_at-trailing_zeros w64 rest (omega (arith, c.loop-rest-test.true)) (Fits-lt-pow c.loop-rest.auto.rest-fits) in
    cleared-less rest _ low.0 low.1

pub loop-rest-preserved : goal.loop-rest-preserved
loop-rest-preserved g c =
    let rest = c.loop-rest.rest in
    let z = trailing_zeros w64 rest in
    let added = c.loop-rest.self-inside.added in
    let allowed = c.loop-rest.self-inside.allowed in
    let now = c.put.new.self in
    let before = c.loop-rest.invariant in
    let low = bit_at-trailing_zeros w64 rest (omega (arith, c.loop-rest-test.true)) (Fits-lt-pow c.loop-rest.auto.rest-fits) in
    let here : get_or now z 0 ≡ c.at.result + c.args.weight = c.put.ensures z ∙ rw (eq-eqb z z refl) refl in
    let apart : (k : ℕ) → (k ≡ z → ⊥) → get_or now k 0 ≡ get_or added k 0 = λ k other. c.put.ensures k ∙ rw (ne_eqb k z other) refl in
    let totals = λ (k : ℕ) (below : k < most_limits).
    share-next added now rest z k c.at.result c.args.weight _ low.0 below low.1 c.put.ensures c.at.ensures (before.totals k below) in
    let others = λ (k : ℕ) (past : most_limits ≤ k).
    apart k (λ e. absurd (omega (arith, e, past, low.0))) ∙ before.others k past in
    elim c.if-total-at.branch [
      | then-total-at w ↦ rw w.self-inside-is (record {
        rest = ap (λ (v : Inside g.row.A.Denot). record v { added = now; passed = w.with_bit-self-inside.result }) before.rest;
        totals = totals;
        others = others;
        passed = ArePassed-put c.loop-rest.self-inside.passed w.with_bit-self-inside.result z added allowed now allowed true before.passed
            w.with_bit-self-inside.ensures
            (sym (lt-ltb (get_or allowed z 0) (get_or now z 0) (omega (arith, w.if-total-at.true, here, c.at-in-loop-rest.ensures))))
            apart (λ k other. refl);
        fits = w.with_bit-self-inside.type_inv;
      })
      | else-total-at w ↦ rw w.self-inside-is (record {
        rest = ap (λ (v : Inside g.row.A.Denot). record v { added = now }) before.rest;
        totals = totals;
        others = others;
        passed = ArePassed-kept c.loop-rest.self-inside.passed z added allowed now before.passed apart
            (omega (arith, here, c.at.ensures)) (omega (arith, w.if-total-at.false, here, c.at-in-loop-rest.ensures));
        fits = before.fits;
      })
    ]

pub returns : goal.returns
returns g c =
    let after = c.loop-rest.invariant in
    rw (← c.self.view_is) (record {
      rest = ap (λ (w : Inside g.row.A.Denot). lag_weights_of w) after.rest;
      added = record {
        each = λ k lt. omega (arith, rw (c.loop-rest-test.false, bit_at-zero k) at (after.totals k lt));
        others = after.others;
      };
    })
