-- Each step of the loop takes the lowest bit off the mask and puts the decision down at its site.
-- So the sites whose bits are gone have it, and the others are as they were.
use Rattle.std.proofs.Common.{arith, ap, sym, refl, inl, inr, subst, ◌∙◌, ◌≡◌, ◌<◌, ◌≤◌, length, not, w64}
use Rattle.std.specs.Int.{bit_at, trailing_zeros}
use Rattle.std.specs.Prelude.{◌==◌, slice_index_or}
use Rattle.std.proofs.Math.Facts.{Fits-lt-pow}
use Rattle.std.proofs.Math.ListN.{length-set}
use Rattle.std.proofs.lemmas.Bool.{cases_eq, eq-eqb, false≢true}
use Rattle.std.proofs.lemmas.Grind.{get_or-set_at}
use Rattle.std.proofs.lemmas.List.{get_or-set_other, get_or_read}
use Rattle.std.proofs.lemmas.Nat.Bits.{bit_at-trailing_zeros, bit_at-zero}
use Rattle.ordup_objects.specs.Sizes.{most_updates}
use Rattle.ordup_limits.proofs.MaskLemmas.{cleared-less}
use Rattle.ordup_primary.specs.PrimaryInside.{kept_at, kept_of, HasSpare}
use Rattle.ordup_primary.specs.declared.progress.Progress.{Progress}
use Rattle.ordup_primary.proofs.DecisionLemmas.{bit-gone, bit-kept, bit-left}
use Rattle.ordup_primary.proofs.decisions.put_down.Goals as goal

pub loop-rest-init : goal.loop-rest-init
loop-rest-init g c = record {
  count = refl;
  left = λ s bit. bit;
  rest = λ s d bit. refl;
  done = λ s d lt none. c.requires.others s d lt none;
}

pub index_mut-requires : goal.index_mut-requires
index_mut-requires g c =
    let rest = c.loop-rest.rest in
    let low = bit_at-trailing_zeros w64 rest (omega (arith, c.loop-rest-test.true)) (Fits-lt-pow c.loop-rest.auto.rest-fits) in
    omega (arith, c.requires.there _ (c.loop-rest.invariant.left _ (eq-eqb _ 1 low.1)), c.loop-rest.invariant.count)

pub has_bit-is_forced-requires : goal.has_bit-is_forced-requires
has_bit-is_forced-requires g c =
    let rest = c.loop-rest.rest in
    let low = bit_at-trailing_zeros w64 rest (omega (arith, c.loop-rest-test.true)) (Fits-lt-pow c.loop-rest.auto.rest-fits) in
    low.0

pub put_down_at-requires : goal.put_down_at-requires
put_down_at-requires g c =
    let rest = c.loop-rest.rest in
    let low = bit_at-trailing_zeros w64 rest (omega (arith, c.loop-rest-test.true)) (Fits-lt-pow c.loop-rest.auto.rest-fits) in
    let z = trailing_zeros w64 rest in
    let before = c.args.sites.now.items in
    let site = c.index_mut.result.now in
    let bit = eq-eqb (bit_at rest z) 1 low.1 in
    let asked = c.loop-rest.invariant.left z bit in
    let lt : z < length before = c.requires.there z asked in
    let at : slice_index_or before z site ≡ site = sym (c.index_mut.ensures.value ∙ c.loop-rest.invariant.rest z site bit) in
    record {
      spare = subst HasSpare at (c.requires.spare z site asked);
      few = c.requires.few;
      reported = subst (λ (s : Progress g.row.A.Denot). s.reported ≤ most_updates) at (c.requires.reported z site lt);
    }

pub loop-rest-smaller : goal.loop-rest-smaller
loop-rest-smaller g c =
    let rest = c.loop-rest.rest in
    let low = bit_at-trailing_zeros w64 rest (omega (arith, c.loop-rest-test.true)) (Fits-lt-pow c.loop-rest.auto.rest-fits) in
    cleared-less rest _ low.0 low.1

pub loop-rest-preserved : goal.loop-rest-preserved
loop-rest-preserved g c =
    let rest = c.loop-rest.rest in
    let fits = Fits-lt-pow c.loop-rest.auto.rest-fits in
    let low = bit_at-trailing_zeros w64 rest (omega (arith, c.loop-rest-test.true)) fits in
    let z = trailing_zeros w64 rest in
    let xs = c.loop-rest.sites.items in
    let x = c.put_down_at.new.site in
    let before = c.loop-rest.invariant in
    let bit = eq-eqb (bit_at rest z) 1 low.1 in
    let there : z < length xs = omega (arith, c.requires.there z (before.left z bit), before.count) in
    record {
      count = length-set xs z x ∙ before.count;
      left = λ s more. bit-left rest c.args.mask z s fits low.0 before.left more;
      rest = λ s d more. elim (cases_eq s z) [
        | inl same ↦ absurd (false≢true (sym (bit-gone rest z low.0) ∙ rw same at more))
        | inr other ↦ get_or-set_other xs z s x d other ∙ before.rest s d (sym (bit-kept rest z s fits low.0 other) ∙ more)
      ];
      done = λ s d lt gone. elim (cases_eq s z) [
        | inl same ↦ (let was : c.index_mut.result.now ≡ slice_index_or c.args.sites.now.items z d =
            get_or_read xs z c.index_mut.result.now there c.index_mut.ensures.value d ∙ before.rest z d bit in
            rw same (ap kept_of (get_or-set_at xs z z x d refl there) ∙ c.put_down_at.ensures
            ∙ ap (λ b. kept_at (not b) c.args.number (kept_of c.index_mut.result.now)) c.has_bit-is_forced.ensures
            ∙ ap (λ y. kept_at (not (bit_at c.args.forced z == 1)) c.args.number (kept_of y)) was))
        | inr other ↦ ap kept_of (get_or-set_other xs z s x d other)
            ∙ before.done s d lt (sym (bit-kept rest z s fits low.0 other) ∙ gone)
      ];
    }

pub returns-clause-count : goal.returns-clause-count
returns-clause-count g c = c.loop-rest.invariant.count

pub returns-clause-sites : goal.returns-clause-sites
returns-clause-sites g c = λ s d lt.
    (let none : c.loop-rest.rest ≡ 0 = omega (arith, c.loop-rest-test.false) in
    c.loop-rest.invariant.done s d lt (rw (none, bit_at-zero s) refl))
