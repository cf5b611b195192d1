-- Columns as the code reads them.
use Rattle.ordup_audit.proofs.Common.{Bool, list_any, or_from, or_parts, ◌+◌, ◌<◌, ◌==◌, ◌^◌, ◌∙◌, ◌∷◌, ◌≡◌, [], ap, arith, false, false≢true, length, List}
use Rattle.ordup_audit.proofs.Common.{nat_tests, negsuc, None, Option, slice_split, sym}
use Rattle.ordup_audit.proofs.Common.{option_and_then, pos, refl, Some, ℕ, ℤ}
use Rattle.std.proofs.Common.{drop, get_or, suc, take, zero, ◌-◌}
use Rattle.csv.specs.Records as csv
use Rattle.csv.specs.Records.{cut_from, field_at, fields_of, text_of}
use Rattle.ordup_grammar.specs.Numbers.{amount_of, number_of}
use Rattle.std.proofs.Common.{position}
use Rattle.std.proofs.lemmas.List.Quantifiers.{position-Some}
use Rattle.std.proofs.lemmas.List.Splits.{length-slice_split}
use Rattle.ordup_grammar.proofs.Decimals.{signed_decimal-number_of}
use Rattle.ordup_grammar.proofs.Splits.{slice_split-no_position, slice_split-position}
use Rattle.ordup_check.specs.ColumnViews.{columns_at}
use Rattle.ordup_check.specs.Limits.{never}
use Rattle.ordup_check.specs.Reading.{has_never}
use Rattle.ordup_rows.specs.Columns.{amount_and_place, columns_of, natural, natural_of}
use Rattle.ordup_rows.specs.Rows.{Row}
use Rattle.ordup_rows.proofs.Columns.{natural_spelled}
use Rattle.ordup_rows.proofs.Versions.{digits_not_at, is_at}

-- a number that counts as above every size is no number without a minus
pub no_natural : (column : List ℕ) (z : ℤ) → number_of column ≡ Some z → amount_of z ≡ 18446744073709551615 → natural_of column ≡ None
no_natural column (pos n) read far =
    let small : n < 10 ^ 19 = (signed_decimal-number_of column (pos n) read).0 in
    absurd (omega (arith, far, small))
no_natural column (negsuc n) read far = ap (option_and_then natural) read

-- the columns of a row, at their places
pub columns_at-is : (row : Row) → columns_at row ≡ columns_of row
unfolding field_at
columns_at-is [] = refl
columns_at-is (a ∷ []) = refl
columns_at-is (a ∷ b ∷ []) = refl
columns_at-is (a ∷ b ∷ c ∷ []) = refl
columns_at-is (a ∷ b ∷ c ∷ d ∷ []) = refl
columns_at-is (a ∷ b ∷ c ∷ d ∷ e ∷ more) =
    let many : (length (a ∷ b ∷ c ∷ d ∷ e ∷ more) == 4) ≡ false = grind (arith, nat_tests) in
    rw many refl

-- ---- amounts and places

-- two numbers, where there are two
abbrev both : Option ℕ → Option ℕ → Option (ℕ × ℕ)
both o p = option_and_then (λ n. option_and_then (λ k. Some (n, k)) p) o

no_place : (o : Option ℕ) → both o None ≡ None
no_place None = refl
no_place (Some n) = refl

three_parts : (amount place : List ℕ) (parts : List (List ℕ)) → 0 < length parts → amount_and_place (amount ∷ place ∷ parts) ≡ None
three_parts amount place [] some = absurd (omega (arith, some))
three_parts amount place (part ∷ parts) some = refl

-- in a number stands no `@`
no_number : (column : List ℕ) (i : ℕ) (o : Option ℕ) → position is_at column ≡ Some i → natural_of column ≡ o → o ≡ None
no_number column i None found read = refl
no_number column i (Some n) found read =
    let (small, text) = natural_spelled column n read in
    let at = position-Some is_at column i 0 found in
    let digit : is_at (get_or column i 0) ≡ false = rw (← text) at (digits_not_at n small) i 0 at.0 in
    absurd (false≢true (sym digit ∙ at.1))

behind_at : (amount rest : List ℕ) (place : Option ℕ) → position is_at rest ≡ place
    → both (natural_of amount) (natural_of rest) ≡ amount_and_place (amount ∷ slice_split is_at rest)
behind_at amount rest None nowhere = rw (slice_split-no_position is_at rest nowhere) refl
behind_at amount rest (Some i) found =
    let more = take (length rest - (i + 1)) (drop (i + 1) rest) in
    let some : 0 < length (slice_split is_at more) = omega (arith, length-slice_split is_at more) in
    rw (slice_split-position is_at rest i found, no_number rest i (natural_of rest) found refl, no_place (natural_of amount))
    (sym (three_parts amount (take i rest) (slice_split is_at more) some))

-- what the numbers around the first `@` are
around_at : (column : List ℕ) (i : ℕ) → position is_at column ≡ Some i
    → both (natural_of (take i column)) (natural_of (take (length column - (i + 1)) (drop (i + 1) column)))
    ≡ amount_and_place (slice_split is_at column)
around_at column i found =
    let rest = take (length column - (i + 1)) (drop (i + 1) column) in
    behind_at (take i column) rest (position is_at rest) refl ∙ ap amount_and_place (sym (slice_split-position is_at column i found))

-- so the first must be a number
pub no_amount : (column : List ℕ) (i : ℕ) → position is_at column ≡ Some i → natural_of (take i column) ≡ None
    → None ≡ amount_and_place (slice_split is_at column)
no_amount column i found none =
    ap (λ o. both o (natural_of (take (length column - (i + 1)) (drop (i + 1) column)))) (sym none) ∙ around_at column i found

-- and the second
pub no_place_behind : (column : List ℕ) (i : ℕ) → position is_at column ≡ Some i
    → natural_of (take (length column - (i + 1)) (drop (i + 1) column)) ≡ None → None ≡ amount_and_place (slice_split is_at column)
no_place_behind column i found none =
    sym (no_place (natural_of (take i column))) ∙ ap (both (natural_of (take i column))) (sym none) ∙ around_at column i found

-- and they are the two
pub amount_and_place-at : (column : List ℕ) (i n k : ℕ) → position is_at column ≡ Some i → natural_of (take i column) ≡ Some n
    → natural_of (take (length column - (i + 1)) (drop (i + 1) column)) ≡ Some k
    → Some (n, k) ≡ amount_and_place (slice_split is_at column)
amount_and_place-at column i n k found first second =
    ap (both (Some n)) (sym second)
    ∙ ap (λ o. both o (natural_of (take (length column - (i + 1)) (drop (i + 1) column)))) (sym first) ∙ around_at column i found

-- without one there are none
pub without_at : (column : List ℕ) → position is_at column ≡ None → None ≡ amount_and_place (slice_split is_at column)
without_at column nowhere = rw (slice_split-no_position is_at column nowhere) refl

-- ---- bytes that came

module _ (p : ℕ → Bool) where
  none_in_take : (n : ℕ) (bytes : List ℕ) → list_any p bytes ≡ false → list_any p (take n bytes) ≡ false
  none_in_take zero bytes none = refl
  none_in_take (suc n) [] none = refl
  none_in_take (suc n) (b ∷ bytes) none =
      let both = or_parts (p b) (list_any p bytes) none in
      or_from (p b) (list_any p (take n bytes)) both.0 (none_in_take n bytes both.1)

  none_in_drop : (n : ℕ) (bytes : List ℕ) → list_any p bytes ≡ false → list_any p (drop n bytes) ≡ false
  none_in_drop zero bytes none = none
  none_in_drop (suc n) [] none = refl
  none_in_drop (suc n) (b ∷ bytes) none = none_in_drop n bytes (or_parts (p b) (list_any p bytes) none).1

is_byte : (b : ℕ) → b < 256 → (b == never) ≡ false
is_byte b small = grind (arith, nat_tests)

pub all_came : (bytes : List ℕ) → ((i : ℕ) → get_or bytes i 0 < 256) → list_any (λ b. b == never) bytes ≡ false
all_came [] fit = refl
all_came (b ∷ bytes) fit = or_from (b == never) _ (is_byte b (fit 0)) (all_came bytes (λ i. fit (suc i)))

cut_came : (start : ℕ) (ends bytes : List ℕ) → list_any (λ b. b == never) bytes ≡ false → has_never (cut_from start ends bytes) ≡ false
unfolding cut_from
cut_came start [] bytes came = refl
cut_came start (end ∷ ends) bytes came =
    or_from _ _ (none_in_take (λ b. b == never) (end - start) (drop start bytes) (none_in_drop (λ b. b == never) start bytes came))
    (cut_came end ends bytes came)

-- each byte of a row came
pub columns_came : (row : csv.Row) → list_any (λ b. b == never) (text_of row) ≡ false → has_never (fields_of row) ≡ false
columns_came row came = cut_came 0 row.ends row.bytes came
