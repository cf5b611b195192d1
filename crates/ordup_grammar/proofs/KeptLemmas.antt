-- Lines whose first eight bytes, last eight bytes and eight from the ninth on are the same numbers.
use Rattle.std.proofs.Common.{◌≡◌, ◌∙◌, ap, sym, refl, ℕ, ◌-◌, ◌+◌, ◌<◌, ◌≤◌, inl, inr}
use Rattle.std.proofs.Common.{List, length, take, drop, get_or, length-take, length-drop, arith}
use Rattle.std.specs.Int.{w64, from_le_bytes}
use Rattle.std.proofs.lemmas.Bool.{cases_lt}
use Rattle.std.proofs.lemmas.List.{get_or-take, get_or-drop, ext_get_or}
use Rattle.std.proofs.lemmas.Nat.{le_bytes_8}

abbrev eight : ℕ → List ℕ → List ℕ
eight index text = take 8 (drop index text)

abbrev AreBytes : List ℕ → Type 0
AreBytes text = (i : ℕ) → get_or text i 0 < 256

-- the byte at an index of the eight
byte_of_eight : (text : List ℕ) (index i : ℕ) → i < 8 → get_or (eight index text) i 0 ≡ get_or text (index + i) 0
byte_of_eight text index i below = get_or-take 8 (drop index text) i 0 below ∙ get_or-drop index text i 0

are_bytes : (text : List ℕ) (index : ℕ) → AreBytes text → index + 8 ≤ length text → AreBytes (eight index text)
are_bytes text index fit spare i = elim (cases_lt i 8) [
  | inl below ↦ rw (byte_of_eight text index i below) (fit (index + i))
  | inr past ↦ grind (arith, length-take 8 (drop index text), length-drop index text)
]

long : (text : List ℕ) (index : ℕ) → index + 8 ≤ length text → length (eight index text) ≡ 8
long text index spare = omega (arith, length-take 8 (drop index text), length-drop index text)

module _ (line kept : List ℕ) (same : length line ≡ length kept) (least : 8 ≤ length kept) (most : length kept ≤ 24)
    (fit : AreBytes line) (kept_fit : AreBytes kept) where
  -- equal numbers are of equal bytes
  pub equal_eight : (index : ℕ) → index + 8 ≤ length kept → from_le_bytes w64 (eight index line) ≡ from_le_bytes w64 (eight index kept)
      → eight index line ≡ eight index kept
  equal_eight index spare e =
      sym (le_bytes_8 (eight index line) _ (long line index (omega arith)) (are_bytes line index fit (omega arith)) refl)
      ∙ le_bytes_8 (eight index kept) _ (long kept index spare) (are_bytes kept index kept_fit spare) e

  same_byte : (index i : ℕ) → eight index line ≡ eight index kept → index ≤ i → i < index + 8 → get_or line i 0 ≡ get_or kept i 0
  same_byte index i e from to =
      let below : i - index < 8 = omega arith in
      let back : index + (i - index) ≡ i = omega arith in
      ap (λ k. get_or line k 0) (sym back)
      ∙ sym (byte_of_eight line index (i - index) below)
      ∙ ap (λ text. get_or text (i - index) 0) e
      ∙ byte_of_eight kept index (i - index) below
      ∙ ap (λ k. get_or kept k 0) back

  -- a short line is that of its first eight bytes and its last
  pub same_short : length kept ≤ 16 → from_le_bytes w64 (eight 0 line) ≡ from_le_bytes w64 (eight 0 kept)
      → from_le_bytes w64 (eight (length kept - 8) line) ≡ from_le_bytes w64 (eight (length kept - 8) kept) → line ≡ kept
  same_short short first last =
      ext_get_or 0 line kept same (λ i below. elim (cases_lt i 8) [
        | inl early ↦ same_byte 0 i (equal_eight 0 least first) (omega arith) early
        | inr late ↦ same_byte (length kept - 8) i (equal_eight (length kept - 8) (omega arith) last) (omega arith) (omega arith)
      ])

  -- a longer one has eight more
  pub same_long : 16 < length kept → from_le_bytes w64 (eight 0 line) ≡ from_le_bytes w64 (eight 0 kept)
      → from_le_bytes w64 (eight (length kept - 8) line) ≡ from_le_bytes w64 (eight (length kept - 8) kept)
      → from_le_bytes w64 (eight 8 line) ≡ from_le_bytes w64 (eight 8 kept) → line ≡ kept
  same_long more first last middle =
      ext_get_or 0 line kept same (λ i below. elim (cases_lt i 8) [
        | inl early ↦ same_byte 0 i (equal_eight 0 least first) (omega arith) early
        | inr after ↦ elim (cases_lt i 16) [
          | inl early ↦ same_byte 8 i (equal_eight 8 (omega arith) middle) (omega arith) (omega arith)
          | inr late ↦ same_byte (length kept - 8) i (equal_eight (length kept - 8) (omega arith) last) (omega arith) (omega arith)
        ]
      ])
