-- Decimal numbers: an optional minus and 1 to 19 digits, with no zero in front of other digits and no minus before 0.
use Rattle.std.specs.Prelude.{ℕ, Bool, ◌&&◌, ◌||◌, not, List, [], ◌∷◌, length, Option, Some}
use Rattle.std.specs.Prelude.{None, ℤ, pos, negsuc, neg_ℤ, nat_lt, nat_le, ◌==◌, if◌then◌else◌}
use Rattle.std.specs.Prelude.{option_map, slice_index, unsigned_abs, ◌<◌, ◌^◌, ◌≡◌}
use Rattle.std.specs.Fmt.{signed_decimal}
use Rattle.std.specs.Str.{all_ascii_digits}
use Rattle.std.specs.Str.Parse.{digits_value}
use Rattle.ordup_grammar.specs.Sizes.{most_digits}

-- whether digits stand as a number is written: 1 to 19 of them, with no zero in front of others
abbrev pub is_plain : List ℕ → Bool
is_plain digits =
    nat_lt 0 (length digits)
    && nat_le (length digits) most_digits
    && (not (slice_index digits 0 == 48) || (length digits == 1))
    && all_ascii_digits digits

-- the number that digits write
abbrev pub magnitude_of : List ℕ → Option ℕ
magnitude_of digits = if is_plain digits then Some (digits_value 10 digits) else None

-- the number that a minus and digits write, by what the digits write
abbrev pub negated : Option ℕ → Option ℤ
negated None = None
negated (Some n) = if n == 0 then None else Some (neg_ℤ (pos n))

-- the number that a word writes, with or without a minus
abbrev pub number_of : List ℕ → Option ℤ
number_of [] = None
number_of (first ∷ rest) =
    if first == 45 then negated (magnitude_of rest) else option_map (λ n. pos n) (magnitude_of (first ∷ rest))

-- a number as an amount: a negative one counts as above every size
abbrev pub amount_of : ℤ → ℕ
amount_of (pos n) = n
amount_of (negsuc n) = 18446744073709551615

-- the decimal text of a number of at most 19 digits reads back as that number
abbrev pub DecimalsReadBack : Type 0
DecimalsReadBack = (z : ℤ) → unsigned_abs z < 10 ^ most_digits → number_of (signed_decimal z) ≡ Some z

-- a word that reads as a number is the decimal text of that number, which has at most 19 digits
abbrev pub NumbersAreDecimals : Type 0
NumbersAreDecimals =
    (word : List ℕ) (z : ℤ) → number_of word ≡ Some z → (unsigned_abs z < 10 ^ most_digits) × (word ≡ signed_decimal z)
