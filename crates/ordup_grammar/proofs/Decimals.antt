-- The decimal text of a number reads back as that number, and no other text does.
use Rattle.std.proofs.Common.{◌≡◌, ap, sym, ◌∙◌, subst, refl, ℕ, zero, suc, ◌^◌, ◌<◌, ◌≤◌}
use Rattle.std.proofs.Common.{true, false, List, [], ◌∷◌, length, get_or, Option, Some, None}
use Rattle.std.proofs.Common.{option_map, Bool, if◌then◌else◌, ℤ, pos, negsuc, unsigned_abs, arith}
use Rattle.std.proofs.lemmas.Bool.Decides.{nat_tests}
use Rattle.std.proofs.lemmas.Fmt.{decimal_nonempty, decimal_digit, length-decimal-le, digits_decimal}
use Rattle.std.proofs.lemmas.Fmt.{first_decimal, decimal-digits_value, digits_value-decimal}
use Rattle.std.proofs.lemmas.Option.{same_Some}
use Rattle.std.proofs.lemmas.Str.Parse.{IsNumeralModel, numerals_by_value, digits_value_short, tells_all_ascii_digits}
use Rattle.std.specs.Fmt.{decimal, signed_decimal}
use Rattle.std.specs.Str.{all_ascii_digits}
use Rattle.std.specs.Str.Parse.{digits_value}
use Rattle.std.specs.Prelude.{◌==◌}
use Rattle.ordup_grammar.specs.Numbers.{number_of, magnitude_of, negated, is_plain}

-- decimal digits and the number that they write
pub numerals : IsNumeralModel (λ digits. all_ascii_digits digits ≡ true) (digits_value 10)
numerals = numerals_by_value _ tells_all_ascii_digits

-- digits that are few, and do not begin with a zero, are plain
is_plain-digits : (digits : List ℕ) → 0 < length digits → length digits ≤ 19 → 48 < get_or digits 0 0
    → all_ascii_digits digits ≡ true
    → is_plain digits ≡ true
is_plain-digits digits some few front all = grind (arith, nat_tests)

-- a decimal text is plain
is_plain-decimal : (n : ℕ) → n < 10 ^ 19 → is_plain (decimal n) ≡ true
is_plain-decimal zero small = rw (decimal_digit 0 (omega arith))
is_plain-decimal (suc n) small =
    is_plain-digits (decimal (suc n)) (decimal_nonempty (suc n) (omega arith))
    (length-decimal-le 19 (suc n) (omega arith) small (omega arith))
    (first_decimal (suc n) (omega arith) (omega arith)) (digits_decimal numerals (suc n) (omega arith))

magnitude_of-decimal : (n : ℕ) → n < 10 ^ 19 → magnitude_of (decimal n) ≡ Some n
magnitude_of-decimal n small = rw (is_plain-decimal n small) (ap (λ m. Some m) (digits_value-decimal numerals n (omega arith)))

-- digits are no sign
number_of-digits : (digits : List ℕ) (n : ℕ) → all_ascii_digits digits ≡ true → magnitude_of digits ≡ Some n
    → number_of digits ≡ Some (pos n)
number_of-digits [] n all h = absurd cc
number_of-digits (first ∷ rest) n all h =
    let unsigned : (first == 45) ≡ false = grind (arith, nat_tests) in
    rw (unsigned, h)

pub number_of-signed_decimal : (z : ℤ) → unsigned_abs z < 10 ^ 19 → number_of (signed_decimal z) ≡ Some z
number_of-signed_decimal (pos n) small =
    number_of-digits (decimal n) n (digits_decimal numerals n (omega arith)) (magnitude_of-decimal n small)
number_of-signed_decimal (negsuc n) small =
    let some : (suc n == 0) ≡ false = grind (arith, nat_tests) in
    rw (magnitude_of-decimal (suc n) (omega arith), some)

-- what plain digits are
pub plain-digits : (digits : List ℕ) → is_plain digits ≡ true → all_ascii_digits digits ≡ true
plain-digits digits plain = grind (arith, nat_tests)

plain-length : (digits : List ℕ) → is_plain digits ≡ true → (0 < length digits) × (length digits ≤ 19)
plain-length digits plain = (grind (arith, nat_tests), grind (arith, nat_tests))

plain-front : (digits : List ℕ) → is_plain digits ≡ true → get_or digits 0 0 ≡ 48 → length digits ≡ 1
plain-front digits plain front = grind (arith, nat_tests)

-- plain digits are the decimal text of their value
decimal-magnitude : (digits : List ℕ) (b : Bool) (n : ℕ) → is_plain digits ≡ b
    → (if b then Some (digits_value 10 digits) else None) ≡ Some n
    → (n < 10 ^ 19) × (digits ≡ decimal n)
decimal-magnitude digits false n plain h = absurd cc
decimal-magnitude digits true n plain h =
    let value : digits_value 10 digits ≡ n = cc in
    let short = digits_value_short numerals digits 19 (plain-digits digits plain) (plain-length digits plain).1 in
    let text = decimal-digits_value numerals digits (plain-digits digits plain) (plain-length digits plain).0 (plain-front digits plain)
    (omega (arith, short)) in
    (omega (arith, short, value), sym text ∙ ap decimal value)

-- a word is the decimal text of a number
abbrev IsDecimal : List ℕ → ℤ → Type 0
IsDecimal word z = (unsigned_abs z < 10 ^ 19) × (word ≡ signed_decimal z)

-- with a minus
decimal-negated : (digits : List ℕ) (m : Option ℕ) (z : ℤ) → magnitude_of digits ≡ m → negated m ≡ Some z
    → IsDecimal (45 ∷ digits) z
decimal-negated digits None z read h = absurd cc
decimal-negated digits (Some zero) z read h = absurd cc
decimal-negated digits (Some (suc n)) z read h =
    let some : (suc n == 0) ≡ false = grind (arith, nat_tests) in
    let text = decimal-magnitude digits _ (suc n) refl read in
    let value = same_Some (negsuc n) z (rw some at h) in
    subst (IsDecimal (45 ∷ digits)) value (text.0, ap (λ rest. 45 ∷ rest) text.1)

-- without a minus
decimal-pos : (digits : List ℕ) (m : Option ℕ) (z : ℤ) → magnitude_of digits ≡ m → option_map (λ n. pos n) m ≡ Some z
    → IsDecimal digits z
decimal-pos digits None z read h = absurd cc
decimal-pos digits (Some n) z read h = subst (IsDecimal digits) (same_Some (pos n) z h) (decimal-magnitude digits _ n refl read)

-- either way
decimal-signed : (first : ℕ) (rest : List ℕ) (z : ℤ) (b : Bool) → (first == 45) ≡ b
    → (if b then negated (magnitude_of rest) else option_map (λ n. pos n) (magnitude_of (first ∷ rest))) ≡ Some z
    → IsDecimal (first ∷ rest) z
decimal-signed first rest z true minus h =
    let is : 45 ≡ first = grind (arith, nat_tests) in
    subst (λ byte. IsDecimal (byte ∷ rest) z) is (decimal-negated rest _ z refl h)
decimal-signed first rest z false plus h = decimal-pos (first ∷ rest) _ z refl h

pub signed_decimal-number_of : (word : List ℕ) (z : ℤ) → number_of word ≡ Some z
    → (unsigned_abs z < 10 ^ 19) × (word ≡ signed_decimal z)
signed_decimal-number_of [] z h = absurd cc
signed_decimal-number_of (first ∷ rest) z h = decimal-signed first rest z _ refl h
