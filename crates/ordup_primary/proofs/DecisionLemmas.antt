-- Sites that change one after the other, by the bits of a mask.
use Rattle.std.proofs.Common.{◌≡◌, ℕ, ◌<◌, ◌^◌, ◌*◌, ◌%◌, ◌==◌, true, false, arith, sym, ap, ◌∙◌, inl, inr, w64}
use Rattle.std.specs.Int.{bit_at, bit_not}
use mir.Val.{bits}
use Rattle.std.proofs.lemmas.Bool.{cases_eq, cases_lt, false≢true}
use Rattle.std.proofs.lemmas.Nat.Bits.{bit_at_above, bit_at_and, bit_at_clear_same, bit_at_clear_other}
use Rattle.ordup_limits.proofs.MaskLemmas.{cleared}

-- the bit that is cleared is the only one that changes
pub bit-gone : (rest z : ℕ) → z < 64 → (bit_at (cleared rest z) z == 1) ≡ false
bit-gone rest z few = ap (λ n. n == 1) (bit_at_clear_same w64 rest z few)

pub bit-kept : (rest z s : ℕ) → rest < 2 ^ 64 → z < 64 → (s ≡ z → ⊥)
    → (bit_at (cleared rest z) s == 1) ≡ (bit_at rest s == 1)
bit-kept rest z s fits few other = elim (cases_lt s 64) [
  | inl lt ↦ ap (λ n. n == 1) (bit_at_clear_other w64 rest z few s lt other)
  | inr past ↦ ap (λ n. n == 1) (let none : bit_at rest s ≡ 0 = bit_at_above rest 64 s fits past in
      omega (arith, none, bit_at_and rest (bit_not w64 (1 * 2 ^ z % 2 ^ bits w64)) s))
]

-- a bit that is left was there
pub bit-left : (rest mask z s : ℕ) → rest < 2 ^ 64 → z < 64
    → ((t : ℕ) → (bit_at rest t == 1) ≡ true → (bit_at mask t == 1) ≡ true)
    → (bit_at (cleared rest z) s == 1) ≡ true → (bit_at mask s == 1) ≡ true
bit-left rest mask z s fits few left bit = elim (cases_eq s z) [
  | inl same ↦ absurd (false≢true (sym (bit-gone rest z few) ∙ rw same at bit))
  | inr other ↦ left s (sym (bit-kept rest z s fits few other) ∙ bit)
]
