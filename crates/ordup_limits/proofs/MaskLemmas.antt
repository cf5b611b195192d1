-- Masks, and the bits that are put into them.
use Rattle.std.proofs.Common.{◌≡◌, ℕ, ◌+◌, ◌*◌, ◌<◌, ◌≤◌, ◌^◌, ◌%◌, Bool, true, false, List, length, get_or, take, arith, sym, refl}
use Rattle.std.proofs.Common.{ap, ◌∙◌, inl, inr, w64}
use Rattle.std.specs.Prelude.{◌==◌, ◌&&◌, ◌||◌, if◌then◌else◌, nat_lt, bit_and}
use Rattle.std.specs.Int.{bit_at, bit_not}
use Rattle.std.specs.List.{list_any}
use mir.Val.{bits}
use Rattle.std.proofs.lemmas.Nat.{and_le_l}
use Rattle.std.specs.Int.RustNames.{bit_or}
use Rattle.std.proofs.Math.Bool.{and-false, and-true, or-false}
use Rattle.std.proofs.Math.ListN.{set}
use Rattle.std.proofs.Math.Pow.{pow-lt}
use Rattle.std.proofs.lemmas.Bool.{cases_eq, cases_lt, eq-eqb, ne_eqb, lt-ltb, le-ltb}
use Rattle.std.proofs.lemmas.Grind.{get_or-set_at, get_or_default_zero}
use Rattle.std.proofs.lemmas.List.{get_or-set_other}
use Rattle.std.proofs.lemmas.List.Folds.{list_any_more}
use Rattle.std.proofs.lemmas.Nat.Bits.{bit_at_or, bit_at-lt, bit_at-pow_same, bit_at-pow_other}
use Rattle.std.proofs.lemmas.Nat.Bits.{bit_at_clear_same, bit_at_clear_other}
use Rattle.ordup_limits.specs.Masks.{has_bit}
use Rattle.ordup_limits.specs.Totals.{share, HaveTotalAt}

shifted : (limit : ℕ) → limit < 64 → 1 * 2 ^ limit % 18446744073709551616 ≡ 2 ^ limit
shifted limit lt = let small : 2 ^ limit < 18446744073709551616 = pow-lt lt in omega (arith, small)

-- a bit is put into a mask
pub bit-put : (mask limit i : ℕ) → limit < 64
    → (bit_at (bit_or mask (1 * 2 ^ limit % 18446744073709551616)) i == 1) ≡ ((i == limit) || (bit_at mask i == 1))
bit-put mask limit i few = rw (shifted limit few, bit_at_or mask (2 ^ limit) i) (elim (cases_eq i limit) [
  | inl this ↦ (let bit : bit_at (2 ^ limit) i ≡ 1 = rw this (bit_at-pow_same limit) in
      rw (eq-eqb i limit this) (eq-eqb _ 1 (omega (arith, bit, bit_at-lt mask i))))
  | inr other ↦ (let bit : bit_at (2 ^ limit) i ≡ 0 = bit_at-pow_other limit i other in
      rw (ne_eqb i limit other) (ap (λ n. n == 1) (omega (arith, bit))))
])

-- a bit is cleared in a mask
pub bit-cleared : (mask z i : ℕ) → z < 64 → i < 64
    → (bit_at (bit_and mask (bit_not w64 (1 * 2 ^ z % 2 ^ bits w64))) i == 1) ≡ (if i == z then false else bit_at mask i == 1)
bit-cleared mask z i few small = elim (cases_eq i z) [
  | inl this ↦ (let gone : bit_at (bit_and mask (bit_not w64 (1 * 2 ^ z % 2 ^ bits w64))) i ≡ 0 =
      rw this (bit_at_clear_same w64 mask z few) in
      rw (gone, eq-eqb i z this) refl)
  | inr other ↦ rw (bit_at_clear_other w64 mask z few i small other, ne_eqb i z other) refl
]

-- a bit is set in a mask
pub bit-set : (mask z i : ℕ) → z < 64
    → (bit_at (bit_or mask (1 * 2 ^ z % 18446744073709551616)) i == 1) ≡ (if i == z then true else bit_at mask i == 1)
bit-set mask z i few = bit-put mask z i few ∙ elim (cases_eq i z) [
  | inl this ↦ rw (eq-eqb i z this) refl
  | inr other ↦ rw (ne_eqb i z other) refl
]

-- a bit is put into the mask of an object
pub has_bit-put : (masks : List ℕ) (object limit at old : ℕ) → limit < 64 → at ≡ object → object < length masks
    → old ≡ get_or masks at old → (x i : ℕ)
    → has_bit (set masks at (bit_or old (1 * 2 ^ limit % 18446744073709551616))) i x
    ≡ (((object == x) && (i == limit)) || has_bit masks i x)
has_bit-put masks object limit at old few same there is x i = elim (cases_eq x object) [
  | inl here ↦ (let put = bit_or old (1 * 2 ^ limit % 18446744073709551616) in
      let value : get_or (set masks at put) x 0 ≡ put = get_or-set_at masks at x _ 0 (here ∙ sym same) (rw same there) in
      let before : get_or masks x 0 ≡ old =
      ap (λ k. get_or masks k 0) (here ∙ sym same) ∙ sym (get_or_default_zero masks at old (rw same there)) ∙ sym is in
      rw (value, before, eq-eqb object x (sym here)) (bit-put old limit i few))
  | inr other ↦ rw (get_or-set_other masks at x _ 0 (λ e. other (e ∙ same)), ne_eqb object x (λ e. other (sym e))) refl
]

-- with one limit more the bits of the limits so far are those that count
pub bits-next : (counts : ℕ → Bool) (old new : Bool) (i place : ℕ) → new ≡ ((counts place && (i == place)) || old)
    → old ≡ (nat_lt i place && counts i)
    → new ≡ (nat_lt i (place + 1) && counts i)
bits-next counts old new i place put before = elim (cases_lt i place) [
  | inl lt ↦
      put ∙ rw (before, ne_eqb i place (omega arith), lt-ltb i place lt, lt-ltb i (place + 1) (omega arith), and-false (counts place)) refl
  | inr le ↦ elim (cases_eq i place) [
    | inl same ↦
        put ∙ rw (before, eq-eqb i place same, le-ltb i place le, lt-ltb i (place + 1) (omega arith), and-true (counts place))
        (or-false (counts place) ∙ ap counts (sym same))
    | inr other ↦
        put ∙ rw (before, ne_eqb i place other, le-ltb i place le, le-ltb i (place + 1) (omega arith), and-false (counts place)) refl
  ]
]

or-parts : (a b c d : Bool) → ((b && c) || ((a && c) || d)) ≡ (((a || b) && c) || d)
or-parts true true true d = refl
or-parts true true false d = refl
or-parts true false true d = refl
or-parts true false false d = refl
or-parts false true true d = refl
or-parts false true false d = refl
or-parts false false true d = refl
or-parts false false false d = refl

lt-next : (x k : ℕ) → nat_lt x (k + 1) ≡ (nat_lt x k || (k == x))
lt-next x k = elim (cases_lt x k) [
  | inl lt ↦ rw (lt-ltb x k lt, lt-ltb x (k + 1) (omega arith)) refl
  | inr le ↦ elim (cases_eq k x) [
    | inl same ↦ rw (le-ltb x k le, eq-eqb k x same, lt-ltb x (k + 1) (omega arith)) refl
    | inr other ↦ rw (le-ltb x k le, ne_eqb k x other, le-ltb x (k + 1) (omega arith)) refl
  ]
]

-- with one member more a bit is put down for the members so far
pub members-more : (members : List ℕ) (k member x : ℕ) (here old new first : Bool) → k < length members → member ≡ get_or members k member
    → new ≡ (((member == x) && here) || old) → old ≡ ((list_any (λ y. y == x) (take k members) && here) || first)
    → new ≡ ((list_any (λ y. y == x) (take (k + 1) members) && here) || first)
members-more members k member x here old new first lt is put before =
    put ∙ rw (before, list_any_more (λ y. y == x) members k member lt, ← is)
    (or-parts (list_any (λ y. y == x) (take k members)) (member == x) here first)

-- with one object more a bit is put down for the objects so far
pub objects-more : (k object x : ℕ) (here old new first : Bool) → object ≡ k → new ≡ (((object == x) && here) || old)
    → old ≡ ((nat_lt x k && here) || first)
    → new ≡ ((nat_lt x (k + 1) && here) || first)
objects-more k object x here old new first is put before =
    put ∙ rw (before, is, lt-next x k) (or-parts (nat_lt x k) (k == x) here first)

-- ---- the lowest bit that is left

-- a number without one of its bits
abbrev pub cleared : ℕ → ℕ → ℕ
cleared rest z = bit_and rest (bit_not w64 (1 * 2 ^ z % 2 ^ bits w64))

-- it is less
pub cleared-less : (rest z : ℕ) → z < 64 → bit_at rest z ≡ 1 → cleared rest z < rest
cleared-less rest z few one = elim (cases_lt (cleared rest z) rest) [
  | inl lt ↦ lt
  | inr le ↦ absurd (let same : cleared rest z ≡ rest = omega (arith, le, and_le_l rest (bit_not w64 (1 * 2 ^ z % 2 ^ bits w64))) in
      omega (arith, bit_at_clear_same w64 rest z few, ap (λ n. bit_at n z) same, one))
]

pub share-most : (b : Bool) (weight : ℕ) → share b weight ≤ weight
share-most true weight = omega arith
share-most false weight = omega arith

-- a total with the weight of one bit more, which is left no longer
pub share-next : (totals next : List ℕ) (rest z k value weight total : ℕ) → z < 64 → k < 64 → bit_at rest z ≡ 1
    → HaveTotalAt z (value + weight) totals next → value ≡ get_or totals z 0
    → get_or totals k 0 + share (bit_at rest k == 1) weight ≡ total
    → get_or next k 0 + share (bit_at (cleared rest z) k == 1) weight ≡ total
share-next totals next rest z k value weight total few below one put is before = elim (cases_eq k z) [
  | inl same ↦ omega (
    arith,
    rw (eq-eqb k z same) at (put k),
    ap (λ n. share (n == 1) weight) (ap (bit_at (cleared rest z)) same ∙ bit_at_clear_same w64 rest z few),
    ap (λ n. share (n == 1) weight) (ap (bit_at rest) same ∙ one),
    ap (λ i. get_or totals i 0) same,
    is,
    before,
  )
  | inr other ↦ omega (
    arith,
    rw (ne_eqb k z other) at (put k),
    ap (λ n. share (n == 1) weight) (bit_at_clear_other w64 rest z few k below other),
    before,
  )
]
