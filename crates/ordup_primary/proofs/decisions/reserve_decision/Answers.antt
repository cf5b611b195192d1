-- Contracts see no spare capacity, so the sites stay the same. Those whose bits are gone have it.
use Rattle.std.proofs.Common.{arith, ap, sym, refl, inl, inr, ◌∙◌, ◌≡◌, ◌<◌, length, w64}
use Rattle.std.specs.Int.{bit_at, trailing_zeros}
use Rattle.std.proofs.Math.Facts.{Fits-lt-pow}
use Rattle.std.proofs.Math.ListN.{length-set}
use Rattle.std.proofs.Math.Seq.{map-set_same}
use Rattle.std.proofs.lemmas.Bool.{cases_eq, eq-eqb, false≢true}
use Rattle.std.proofs.lemmas.Grind.{get_or-set_at}
use Rattle.std.proofs.lemmas.List.{get_or-set_other}
use Rattle.std.proofs.lemmas.Nat.Bits.{bit_at-trailing_zeros, bit_at-zero}
use Rattle.ordup_limits.proofs.MaskLemmas.{cleared-less}
use Rattle.ordup_primary.specs.PrimaryInside.{kept_of}
use Rattle.ordup_primary.proofs.DecisionLemmas.{bit-kept, bit-left}
use Rattle.ordup_primary.proofs.decisions.reserve_decision.Goals as goal

pub loop-rest-init : goal.loop-rest-init
loop-rest-init g c = record {
  same = refl;
  count = refl;
  left = λ s bit. bit;
  spare = λ s d bit none. absurd (false≢true (sym none ∙ bit));
}

pub index_mut-requires : goal.index_mut-requires
index_mut-requires g c =
    let rest = c.loop-rest.rest in
    let low = bit_at-trailing_zeros w64 rest (omega (arith, c.loop-rest-test.true)) (Fits-lt-pow c.loop-rest.auto.rest-fits) in
    omega (arith, c.requires _ (c.loop-rest.invariant.left _ (eq-eqb _ 1 low.1)), c.loop-rest.invariant.count)

pub returns-in_err-reserve_decision_at-clause-same : goal.returns-in_err-reserve_decision_at-clause-same
returns-in_err-reserve_decision_at-clause-same g c =
    map-set_same kept_of c.loop-rest.sites.items _ c.reserve_decision_at.new.site c.index_mut.result.now
    (c.reserve_decision_at.ensures.same ∙ ap kept_of c.index_mut.ensures.value)
    ∙ c.loop-rest.invariant.same

pub loop-rest-smaller : goal.loop-rest-smaller
loop-rest-smaller g c =
    let rest = c.loop-rest.rest in
    let low = bit_at-trailing_zeros w64 rest (omega (arith, c.loop-rest-test.true)) (Fits-lt-pow c.loop-rest.auto.rest-fits) in
    cleared-less rest _ low.0 low.1

pub loop-rest-preserved : goal.loop-rest-preserved
loop-rest-preserved g c =
    let rest = c.loop-rest.rest in
    let fits = Fits-lt-pow c.loop-rest.auto.rest-fits in
    let low = bit_at-trailing_zeros w64 rest (omega (arith, c.loop-rest-test.true)) fits in
    let z = trailing_zeros w64 rest in
    let xs = c.loop-rest.sites.items in
    let x = c.reserve_decision_at.new.site in
    let before = c.loop-rest.invariant in
    let there : z < length xs = omega (arith, c.requires z (before.left z (eq-eqb (bit_at rest z) 1 low.1)), before.count) in
    record {
      same =
          map-set_same kept_of xs z x c.index_mut.result.now (c.reserve_decision_at.ensures.same ∙ ap kept_of c.index_mut.ensures.value)
          ∙ before.same;
      count = length-set xs z x ∙ before.count;
      left = λ s bit. bit-left rest c.args.mask z s fits low.0 before.left bit;
      spare = λ s d bit gone. elim (cases_eq s z) [
        | inl same ↦ rw (get_or-set_at xs z s x d same there) c.in_ok-reserve_decision_at.ensures.spare
        | inr other ↦ rw (get_or-set_other xs z s x d other) (before.spare s d bit (sym (bit-kept rest z s fits low.0 other) ∙ gone))
      ];
    }

pub returns-clause-spare : goal.returns-clause-spare
returns-clause-spare g c = λ s d bit.
    (let none : c.loop-rest.rest ≡ 0 = omega (arith, c.loop-rest-test.false) in
    c.loop-rest.invariant.spare s d bit (rw (none, bit_at-zero s) refl))
