-- Which of sixteen bytes are printed, by the bits that comparing them sets.
use Rattle.std.proofs.Common.{◌≡◌, ◌≢◌, ℕ, zero, suc, ◌+◌, ◌-◌, ◌<◌, ◌≤◌, ◌%◌, ◌^◌, Bool, true, false, cond, leb, inl, inr}
use Rattle.std.proofs.Common.{List, [], ◌∷◌, length, map, take, drop, get_or, replicate, length-take, length-drop}
use Rattle.std.proofs.Common.{refl, ap, sym, subst, ◌∙◌, arith}
use Rattle.std.specs.Prelude.{not, nat_eq, ◌==◌, ◌&&◌, Some}
use Rattle.std.specs.List.{list_all, prefix_len}
use Rattle.std.specs.Simd.Lanes.{zip2, mask_l, top}
use Rattle.std.proofs.lemmas.Bool.Decides.{nat_tests}
use Rattle.std.proofs.lemmas.Bool.{cases_Bool, cases_lt, and_parts, eqb-true}
use Rattle.std.proofs.lemmas.List.{length-map, get_or-take, get_or-drop}
use Rattle.std.proofs.lemmas.Simd.{chunk-drop, zip2_splat, zip2_of_maps, splat_is_map, mask_l-mod, first_set_mask_l}
use Rattle.std.proofs.lemmas.List.Folds.{length-prefix_len, prefix_len-append}
use Rattle.memchr.specs.Find.{IsFirstByte}
use lib.Count.{count_trailing_zeros}
use Rattle.ordup_grammar.specs.Requests.{is_printed}

-- ---- one byte

-- the test passes at each number below n
abbrev checks_below : (ℕ → Bool) → ℕ → Bool
checks_below test zero = true
checks_below test (suc n) = test n && checks_below test n

at_each : (test : ℕ → Bool) (n : ℕ) → checks_below test n ≡ true → (x : ℕ) → x < n → test x ≡ true
at_each test zero all x lt = absurd (omega arith)
at_each test (suc n) all x lt =
    let both = and_parts (test n) (checks_below test n) all in
    elim (cases_lt x n) [
      | inl below ↦ at_each test n both.1 x below
      | inr past ↦ (let is : x ≡ n = omega arith in rw is both.0)
    ]

same_tests : (a b : Bool) → cond a b (not b) ≡ true → a ≡ b
same_tests true true h = refl
same_tests true false h = absurd cc
same_tests false true h = absurd cc
same_tests false false h = refl

-- 32 taken off, around 256; and all bits of a byte where it is at least 95
abbrev less : ℕ → ℕ → ℕ
less a b = (a + (2 ^ 8 - b)) % 2 ^ 8

abbrev marks : ℕ → ℕ → ℕ
marks a b = cond (leb a b) 255 0

-- whether a byte is marked
abbrev is_marked : ℕ → Bool
is_marked x = top 7 (marks 95 (less x 32))

-- of the 256 bytes those that are printed are not marked
printed_byte : (x : ℕ) → x < 256 → not (is_marked x) ≡ is_printed x
printed_byte x lt =
    same_tests (not (is_marked x)) (is_printed x)
    (at_each (λ y. cond (not (is_marked y)) (is_printed y) (not (is_printed y))) 256 refl x lt)

-- ---- sixteen bytes

-- tests that are the same of each element stop at the same one
prefix_same : (p q : ℕ → Bool) (xs : List ℕ) → ((i : ℕ) → i < length xs → p (get_or xs i 0) ≡ q (get_or xs i 0))
    → prefix_len p xs ≡ prefix_len q xs
prefix_same p q [] same = refl
prefix_same p q (x ∷ xs) same =
    rw (same 0 (omega arith)) (ap (λ n. cond (q x) (1 + n) 0) (prefix_same p q xs (λ i lt. same (suc i) (omega arith))))

map_twice : {X Y Z : Type 0} (f : Y → Z) (g : X → Y) (xs : List X) → map f (map g xs) ≡ map (λ x. f (g x)) xs
map_twice f g [] = refl
map_twice f g (x ∷ xs) = ap (λ ys. f (g x) ∷ ys) (map_twice f g xs)

pub without_zero : (m n a b : ℕ) → cond (m == 0) n a ≡ b → m ≢ 0 → a ≡ b
without_zero m n a b chosen some = grind (arith, chosen)

pub with_zero : (m n a b : ℕ) → cond (m == 0) n a ≡ b → m ≡ 0 → n ≡ b
with_zero m n a b chosen none = grind (arith, chosen)

module _ (bytes : List ℕ) (index : ℕ) (spare : index + 16 ≤ length bytes) (fit : (i : ℕ) → get_or bytes i 0 < 256) where
  abbrev block : List ℕ
  block = take 16 (drop index bytes)

  -- the marks of the block, as the bits of a number
  abbrev marked : ℕ
  marked = mask_l (map (top 7) (zip2 marks (replicate 16 95) (zip2 less block (replicate 16 32)))) % 2 ^ 64

  sixteen : length block ≡ 16
  sixteen = omega (arith, length-take 16 (drop index bytes), length-drop index bytes)

  marked_bits : marked ≡ mask_l (map is_marked block)
  marked_bits =
      let lanes : zip2 marks (replicate 16 95) (zip2 less block (replicate 16 32)) ≡ map (λ x. marks 95 (less x 32)) block =
      zip2_of_maps marks (λ _. 95) (λ x. less x 32) block (splat_is_map block 16 95 sixteen) (zip2_splat less block 16 32 sixteen) in
      ap (λ ys. mask_l (map (top 7) ys) % 2 ^ 64) lanes
      ∙ ap (λ ms. mask_l ms % 2 ^ 64) (map_twice (top 7) (λ x. marks 95 (less x 32)) block)
      ∙ mask_l-mod (map is_marked block) 64 (rw (length-map block is_marked, sixteen) (omega arith))

  same : (i : ℕ) → i < length block → not (is_marked (get_or block i 0)) ≡ is_printed (get_or block i 0)
  same i lt =
      let within : i < 16 = omega (arith, sixteen) in
      printed_byte (get_or block i 0) (rw (get_or-take 16 (drop index bytes) i 0 within, get_or-drop index bytes i 0) (fit (index + i)))

  -- the index of the first mark, or 16 where there is none
  first_mark : cond (marked == 0) 16 (count_trailing_zeros 64 marked) ≡ prefix_len is_printed block
  first_mark =
      rw marked_bits (first_set_mask_l is_marked block 16 sixteen (omega arith))
      ∙ prefix_same (λ x. not (is_marked x)) is_printed block same

  pub printed_before_mark : marked ≢ 0 → count_trailing_zeros 64 marked ≡ prefix_len is_printed block
  printed_before_mark some = without_zero marked 16 (count_trailing_zeros 64 marked) (prefix_len is_printed block) first_mark some

  pub printed_without_mark : marked ≡ 0 → 16 ≡ prefix_len is_printed block
  printed_without_mark none = with_zero marked 16 (count_trailing_zeros 64 marked) (prefix_len is_printed block) first_mark none

-- ---- a block after those that are all printed

without_all : (r rest whole : ℕ) → whole ≡ cond (r == 16) (16 + rest) r → r < 16 → whole ≡ r
without_all r rest whole is lt = grind (arith, is)

with_all : (r rest whole : ℕ) → whole ≡ cond (r == 16) (16 + rest) r → 16 ≤ r → r ≤ 16 → whole ≡ 16 + rest
with_all r rest whole is le ge = grind (arith, is)

module _ (bytes : List ℕ) (index r : ℕ) (spare : index + 16 ≤ length bytes)
    (so_far : prefix_len is_printed bytes ≡ index + prefix_len is_printed (drop index bytes))
    (found : r ≡ prefix_len is_printed (take 16 (drop index bytes))) where
  parts : prefix_len is_printed (drop index bytes) ≡ cond (r == 16) (16 + prefix_len is_printed (drop (index + 16) bytes)) r
  parts =
      let block = take 16 (drop index bytes) in
      let long : length block ≡ 16 = omega (arith, length-take 16 (drop index bytes), length-drop index bytes) in
      let both = prefix_len-append is_printed block (drop (index + 16) bytes) in
      rw found (ap (prefix_len is_printed) (chunk-drop index 16 bytes) ∙ (rw long at both))

  pub stops_in_block : r < 16 → index + r ≡ prefix_len is_printed bytes
  stops_in_block lt =
      let here = without_all r (prefix_len is_printed (drop (index + 16) bytes)) (prefix_len is_printed (drop index bytes)) parts lt in
      omega (arith, here, so_far)

  pub goes_past_block : 16 ≤ r → prefix_len is_printed bytes ≡ index + 16 + prefix_len is_printed (drop (index + 16) bytes)
  goes_past_block le =
      let block = take 16 (drop index bytes) in
      let most : r ≤ 16 =
      omega (
        arith,
        found,
        length-prefix_len is_printed block,
        length-take (prefix_len is_printed block) block,
        length-take 16 (drop index bytes),
      ) in
      let here = with_all r (prefix_len is_printed (drop (index + 16) bytes)) (prefix_len is_printed (drop index bytes)) parts le most in
      omega (arith, here, so_far)

-- ---- the printed prefix of a line

printed_or : (bytes : List ℕ) (byte k : ℕ) → is_printed byte ≡ true
    → ((j : ℕ) → j < prefix_len is_printed bytes → is_printed (get_or bytes j 0) ≡ true)
    → k < 1 + prefix_len is_printed bytes → is_printed (get_or (byte ∷ bytes) k 0) ≡ true
printed_or bytes byte zero printed rest lt = printed
printed_or bytes byte (suc k) printed rest lt = rest k (omega arith)

pub printed_at : (bytes : List ℕ) (k : ℕ) → k < prefix_len is_printed bytes → is_printed (get_or bytes k 0) ≡ true
printed_at [] k lt = absurd (omega arith)
printed_at (byte ∷ bytes) k lt = elim (cases_Bool (is_printed byte)) [
  | inl printed ↦ (let longer : prefix_len is_printed (byte ∷ bytes) ≡ 1 + prefix_len is_printed bytes = rw printed refl in
      printed_or bytes byte k printed (λ j below. printed_at bytes j below) (omega (arith, longer)))
  | inr other ↦ (let none : prefix_len is_printed (byte ∷ bytes) ≡ 0 = rw other refl in absurd (omega (arith, none)))
]

one_longer : (byte : ℕ) (bytes : List ℕ) → is_printed byte ≡ true
    → prefix_len is_printed (byte ∷ bytes) ≡ suc (prefix_len is_printed bytes)
one_longer byte bytes printed =
    rw printed (let one : 1 + prefix_len is_printed bytes ≡ suc (prefix_len is_printed bytes) = omega arith in one)

same_above : (a b : ℕ) → nat_eq (suc a) (suc b) ≡ nat_eq a b
same_above a b = grind (arith, nat_tests)

none_above : (n : ℕ) → nat_eq 0 (suc n) ≡ false
none_above n = grind (arith, nat_tests)

-- all bytes are printed where the prefix is as long as the line
pub all_printed : (bytes : List ℕ) → nat_eq (prefix_len is_printed bytes) (length bytes) ≡ list_all is_printed bytes
all_printed [] = refl
all_printed (byte ∷ bytes) = elim (cases_Bool (is_printed byte)) [
  | inl printed ↦ subst (λ n. nat_eq n (suc (length bytes)) ≡ list_all is_printed (byte ∷ bytes)) (sym (one_longer byte bytes printed))
      (same_above (prefix_len is_printed bytes) (length bytes) ∙ rw printed (all_printed bytes))
  | inr other ↦ rw other (none_above (length bytes))
]

-- the prefix is printed
pub prefix_printed : (bytes : List ℕ) → list_all is_printed (take (prefix_len is_printed bytes) bytes) ≡ true
prefix_printed [] = refl
prefix_printed (byte ∷ bytes) = elim (cases_Bool (is_printed byte)) [
  | inl printed ↦ subst (λ n. list_all is_printed (take n (byte ∷ bytes)) ≡ true) (sym (one_longer byte bytes printed))
      (rw printed (prefix_printed bytes))
  | inr other ↦ rw other refl
]

-- no line feed is in the prefix, so one behind it is the first
pub first_line_feed : (bytes : List ℕ) → prefix_len is_printed bytes < length bytes → get_or bytes (prefix_len is_printed bytes) 0 ≡ 10
    → IsFirstByte (λ byte. byte == 10) bytes (Some (prefix_len is_printed bytes))
first_line_feed bytes lt at = (
  record {
    low = omega arith;
    high = lt;
    before = λ k le below feed.
        let is : get_or bytes k 0 ≡ 10 = eqb-true (get_or bytes k 0) 10 feed in
        let printed : is_printed 10 ≡ true = rw is at (printed_at bytes k below) in
        absurd cc;
  },
  rw at refl,
)
