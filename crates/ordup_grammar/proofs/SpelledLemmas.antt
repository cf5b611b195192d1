-- Words whose first four bytes and last four bytes are the same numbers.
use Rattle.std.proofs.Common.{◌≡◌, ◌∙◌, ap, sym, refl, ℕ, ◌-◌, ◌+◌, ◌<◌, ◌≤◌, inl, inr}
use Rattle.std.proofs.Common.{List, length, take, drop, get_or, length-take, length-drop, arith}
use Rattle.std.specs.Prelude.{nat_eq}
use Rattle.std.specs.Int.{w32, from_le_bytes}
use Rattle.std.specs.Str.{bytes_eq}
use Rattle.std.specs.Cmp.Lexicographic.{bytes_decides}
use Rattle.std.proofs.lemmas.Bool.{cases_Bool, cases_lt, eqb-true, eq-eqb}
use Rattle.std.proofs.lemmas.List.{get_or-take, get_or-drop, ext_get_or}
use Rattle.std.proofs.lemmas.Nat.{le_bytes_4}

abbrev four : ℕ → List ℕ → List ℕ
four index text = take 4 (drop index text)

abbrev AreBytes : List ℕ → Type 0
AreBytes text = (i : ℕ) → get_or text i 0 < 256

-- the byte at an index of the four
byte_of_four : (text : List ℕ) (index i : ℕ) → i < 4 → get_or (four index text) i 0 ≡ get_or text (index + i) 0
byte_of_four text index i below = get_or-take 4 (drop index text) i 0 below ∙ get_or-drop index text i 0

are_bytes : (text : List ℕ) (index : ℕ) → AreBytes text → index + 4 ≤ length text → AreBytes (four index text)
are_bytes text index fit spare i = elim (cases_lt i 4) [
  | inl below ↦ rw (byte_of_four text index i below) (fit (index + i))
  | inr past ↦ grind (arith, length-take 4 (drop index text), length-drop index text)
]

long : (text : List ℕ) (index : ℕ) → index + 4 ≤ length text → length (four index text) ≡ 4
long text index spare = omega (arith, length-take 4 (drop index text), length-drop index text)

module _ (word keyword : List ℕ) (same : length word ≡ length keyword) (least : 4 ≤ length keyword) (most : length keyword ≤ 8)
    (fit : AreBytes word) (keyword_fit : AreBytes keyword) where
  -- equal numbers are of equal bytes
  equal_four : (index : ℕ) → index + 4 ≤ length keyword → from_le_bytes w32 (four index word) ≡ from_le_bytes w32 (four index keyword)
      → four index word ≡ four index keyword
  equal_four index spare e =
      sym (le_bytes_4 (four index word) _ (long word index (omega arith)) (are_bytes word index fit (omega arith)) refl)
      ∙ le_bytes_4 (four index keyword) _ (long keyword index spare) (are_bytes keyword index keyword_fit spare) e

  same_byte : (index i : ℕ) → four index word ≡ four index keyword → index ≤ i → i < index + 4 → get_or word i 0 ≡ get_or keyword i 0
  same_byte index i e from to =
      let below : i - index < 4 = omega arith in
      let back : index + (i - index) ≡ i = omega arith in
      ap (λ k. get_or word k 0) (sym back)
      ∙ sym (byte_of_four word index (i - index) below)
      ∙ ap (λ text. get_or text (i - index) 0) e
      ∙ byte_of_four keyword index (i - index) below
      ∙ ap (λ k. get_or keyword k 0) back

  same_word : four 0 word ≡ four 0 keyword → four (length keyword - 4) word ≡ four (length keyword - 4) keyword → word ≡ keyword
  same_word first last =
      ext_get_or 0 word keyword same (λ i below. elim (cases_lt i 4) [
        | inl early ↦ same_byte 0 i first (omega arith) early
        | inr late ↦ same_byte (length keyword - 4) i last (omega arith) (omega arith)
      ])

  -- where the first four are the same, the last four tell
  pub last_four_tell : (m n : ℕ) → from_le_bytes w32 (four 0 word) ≡ from_le_bytes w32 (four 0 keyword)
      → m ≡ from_le_bytes w32 (four (length keyword - 4) word) → n ≡ from_le_bytes w32 (four (length keyword - 4) keyword)
      → nat_eq m n ≡ bytes_eq word keyword
  last_four_tell m n first last keyword_last = elim (cases_Bool (nat_eq m n)) [
    | inl equal ↦ (let is : m ≡ n = eqb-true m n equal in
        equal ∙ sym ((bytes_decides word keyword).1 (same_word (equal_four 0 least first)
        (equal_four (length keyword - 4) (omega arith) (sym last ∙ is ∙ keyword_last)))))
    | inr other ↦ elim (cases_Bool (bytes_eq word keyword)) [
      | inl alike ↦ (let is : m ≡ n =
          last ∙ ap (λ text. from_le_bytes w32 (four (length keyword - 4) text)) ((bytes_decides word keyword).0 alike)
          ∙ sym keyword_last in
          eq-eqb m n is ∙ sym alike)
      | inr apart ↦ other ∙ sym apart
    ]
  ]
