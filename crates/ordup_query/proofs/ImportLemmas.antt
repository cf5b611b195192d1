-- What a read imports.
use Rattle.std.proofs.Common.{◌≡◌, ℕ, ◌<◌, ◌≤◌, ℤ, List, length, min, max, inl, inr, arith, ap, ◌∙◌}
use Rattle.std.specs.Int.{abs_diff}
use Rattle.std.proofs.lemmas.Int.{ints}
use Rattle.std.proofs.lemmas.Bool.{cases_lt}
use Rattle.ordup_objects.specs.States.{value_at}
use Rattle.ordup_objects.specs.Serial.{History, serial}
use Rattle.ordup_objects.specs.Weights.{distance, object_span}
use Rattle.ordup_objects.proofs.SpanLemmas.{object_span-add, moved}
use Rattle.ordup_site.specs.Sites.{SiteState, HasApplied}
use Rattle.ordup_objects.specs.Marks.{AreMarks}
use Rattle.ordup_query.specs.Imports.{import_of, charge, ChargesAreImports}

distance-other : (a b : ℤ) → distance a b ≡ distance b a
distance-other a b = grind (arith, ints)

-- two weights from the start are apart by the weight between
between : (h : History) (x j p : ℕ) → abs_diff (object_span h x 0 j) (object_span h x 0 p) ≡ import_of h x j p
between h x j p = elim (cases_lt j p) [
  | inl lt ↦ (let low : min j p ≡ j = omega arith in
      let high : max j p ≡ p = omega arith in
      rw (low, high) (omega (arith, object_span-add h x j p (omega arith))))
  | inr le ↦ (let low : min j p ≡ p = omega arith in
      let high : max j p ≡ j = omega arith in
      rw (low, high) (omega (arith, object_span-add h x p j le)))
]

-- a value is no further from the one at the reference than the weight between
pub moved_between : (h : History) (x j p : ℕ) → distance (value_at (serial h j) x) (value_at (serial h p) x) ≤ import_of h x j p
moved_between h x j p = elim (cases_lt j p) [
  | inl lt ↦ (let low : min j p ≡ j = omega arith in
      let high : max j p ≡ p = omega arith in
      rw (low, high) (omega (arith, distance-other (value_at (serial h j) x) (value_at (serial h p) x), moved h x j p (omega arith))))
  | inr le ↦ (let low : min j p ≡ p = omega arith in
      let high : max j p ≡ j = omega arith in
      rw (low, high) (moved h x p j le))
]

-- where the marks are those of the reference, the charge is the import
pub charge-import_of : ChargesAreImports
charge-import_of s marks x marked h j p site reference = rw (site.travelled x, reference x marked) (between h x j p)

-- so is what a read was charged
pub import-import_of : (s : SiteState) (marks : List ℕ) (x charged : ℕ) → x < length marks → charged ≡ charge s marks x
    → (h : History) (j p : ℕ) → HasApplied s h j → AreMarks h p marks
    → charged ≡ import_of h x j p
import-import_of s marks x charged marked e h j p site reference = e ∙ charge-import_of s marks x marked h j p site reference

-- and the value at the reference is no further off
pub import-near : (s : SiteState) (marks : List ℕ) (x charged : ℕ) (value : ℤ) → x < length marks → charged ≡ charge s marks x
    → value ≡ value_at s.values x → (h : History) (j p : ℕ) → HasApplied s h j → AreMarks h p marks
    → distance value (value_at (serial h p) x) ≤ charged
import-near s marks x charged value marked e f h j p site reference =
    let is : charged ≡ import_of h x j p = import-import_of s marks x charged marked e h j p site reference in
    let read : value ≡ value_at (serial h j) x = f ∙ ap (λ v. value_at v x) site.values in
    rw (is, read) (moved_between h x j p)
