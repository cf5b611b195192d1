-- What a change word spells, by the parts between its colons.
use Rattle.std.proofs.Common.{◌≡◌, ◌∙◌, ◌++◌, ap, sym, inl, inr, refl, ℕ, zero, suc, Bool, true, false, ◌<◌, ◌==◌, List, [], ◌∷◌, length, get_or, take, drop, ◌+◌, ◌-◌}
use Rattle.std.proofs.Common.{Option, Some, None, option_map, ℤ, pos, position, if◌then◌else◌, arith}
use Rattle.std.proofs.lemmas.Bool.Decides.{nat_tests}
use Rattle.std.proofs.lemmas.List.Quantifiers.{position-Some}
use Rattle.std.proofs.lemmas.List.Splits.{length-slice_split, join_with_byte-slice_split}
use Rattle.std.specs.List.{slice_split, join_with_byte}
use Rattle.std.specs.Prelude.{is_some, codes}
use Rattle.std.specs.Str.{bytes_eq}
use Rattle.std.specs.Cmp.Lexicographic.{bytes_decides}
use Rattle.std.proofs.Math.Seq.{take-append-add}
use Rattle.std.proofs.lemmas.Bool.{cases_Bool}
use Rattle.std.specs.Str.{all_ascii_digits}
use Rattle.std.specs.Str.Parse.{digits_value}
use Rattle.ordup_grammar.specs.declared.change_words.ChangeWord.{ChangeWord}
use Rattle.ordup_grammar.specs.declared.change_words.Operation.{Operation}
use Rattle.ordup_grammar.specs.ChangeWords.{change_of, change_of_parts}
use Rattle.ordup_grammar.specs.Numbers.{number_of, magnitude_of, negated, is_plain}
use Rattle.ordup_grammar.specs.Operations.{operation_of}
use Rattle.ordup_grammar.proofs.Decimals.{plain-digits}
use Rattle.ordup_grammar.proofs.Splits.{slice_split-position, slice_split-no_position}

abbrev is_colon : ℕ → Bool
is_colon byte = byte == 58

many_parts : (kind name part : List ℕ) (parts : List (List ℕ)) → 0 < length parts
    → change_of_parts (kind ∷ name ∷ part ∷ parts) ≡ None
many_parts kind name part [] some = absurd (omega (arith, some))
many_parts kind name part (next ∷ parts) some = refl

-- the change of this object, if there is an operation
abbrev change_by : List ℕ → Option Operation → Option ChangeWord
change_by name operation = if length name == 0 then None else option_map (λ o. record { object = name; operation = o }) operation

either_way : (b : Bool) (c : Option ChangeWord) → (if b then c else c) ≡ c
either_way true c = refl
either_way false c = refl

change_by_index : (word kind rest name operand : List ℕ) (index : Option ℕ)
    → slice_split is_colon word ≡ kind ∷ slice_split is_colon rest
    → slice_split is_colon rest ≡ name ∷ slice_split is_colon operand
    → position is_colon operand ≡ index
    → change_of word ≡ change_by name (if is_some index then None else operation_of kind operand)
change_by_index word kind rest name operand None first second nowhere =
    rw (first, second, slice_split-no_position is_colon operand nowhere) refl
change_by_index word kind rest name operand (Some i) first second found =
    let parts = slice_split-position is_colon operand i found in
    let more = take (length operand - (i + 1)) (drop (i + 1) operand) in
    let some : 0 < length (slice_split is_colon more) = omega (arith, length-slice_split is_colon more) in
    rw (first, second, parts, either_way (length name == 0) None) (many_parts kind name (take i operand) (slice_split is_colon more) some)

-- what stands behind the second colon is the last part where it has none
pub change_of-behind : (word kind rest name operand : List ℕ)
    → slice_split is_colon word ≡ kind ∷ slice_split is_colon rest
    → slice_split is_colon rest ≡ name ∷ slice_split is_colon operand
    → change_of word ≡ change_by name (if is_some (position is_colon operand) then None else operation_of kind operand)
change_of-behind word kind rest name operand first second =
    change_by_index word kind rest name operand (position is_colon operand) first second refl

-- ---- the kind

-- a word that does not begin with a kind and a colon has another first part
another_kind : (word kind first rest : List ℕ) → bytes_eq (take (length kind + 1) word) (kind ++ 58 ∷ []) ≡ false
    → word ≡ first ++ 58 ∷ rest
    → bytes_eq first kind ≡ false
another_kind word kind first rest begins is = elim (cases_Bool (bytes_eq first kind)) [
  | inl same ↦ (let first_is : first ≡ kind = (bytes_decides first kind).0 same in
      let seen : take (length kind + 1) word ≡ kind ++ 58 ∷ [] =
      ap (take (length kind + 1)) is ∙ ap (λ text. take (length kind + 1) (text ++ 58 ∷ rest)) first_is
      ∙ take-append-add kind (58 ∷ rest) 1 in
      absurd (let e : true ≡ false = sym ((bytes_decides _ (kind ++ 58 ∷ [])).1 seen) ∙ begins in cc))
  | inr other ↦ other
]

-- by the parts of the word
no_kind_by : (word : List ℕ) (parts : List (List ℕ)) → slice_split is_colon word ≡ parts
    → bytes_eq (take 4 word) (codes "add:") ≡ false
    → bytes_eq (take 4 word) (codes "set:") ≡ false
    → bytes_eq (take 4 word) (codes "mul:") ≡ false
    → bytes_eq (take 4 word) (codes "max:") ≡ false
    → bytes_eq (take 4 word) (codes "min:") ≡ false
    → bytes_eq (take 5 word) (codes "take:") ≡ false
    → change_of_parts parts ≡ None
no_kind_by word [] is add set mul max min taken = refl
no_kind_by word (kind ∷ []) is add set mul max min taken = refl
no_kind_by word (kind ∷ name ∷ []) is add set mul max min taken = refl
no_kind_by word (kind ∷ name ∷ operand ∷ []) is add set mul max min taken =
    let joined : word ≡ kind ++ 58 ∷ (name ++ 58 ∷ operand) = sym (join_with_byte-slice_split 58 word) ∙ ap (join_with_byte 58) is in
    rw (
      another_kind word (codes "take") kind _ taken joined,
      another_kind word (codes "add") kind _ add joined,
      another_kind word (codes "set") kind _ set joined,
      another_kind word (codes "mul") kind _ mul joined,
      another_kind word (codes "max") kind _ max joined,
      another_kind word (codes "min") kind _ min joined,
    ) (either_way (length name == 0) None)
no_kind_by word (kind ∷ name ∷ operand ∷ part ∷ parts) is add set mul max min taken = refl

-- a word that begins with no kind spells no change
pub no_kind : (word : List ℕ)
    → bytes_eq (take 4 word) (codes "add:") ≡ false
    → bytes_eq (take 4 word) (codes "set:") ≡ false
    → bytes_eq (take 4 word) (codes "mul:") ≡ false
    → bytes_eq (take 4 word) (codes "max:") ≡ false
    → bytes_eq (take 4 word) (codes "min:") ≡ false
    → bytes_eq (take 5 word) (codes "take:") ≡ false
    → change_of word ≡ None
no_kind word = no_kind_by word _ refl

-- ---- numbers

digit_at : (digits : List ℕ) (i : ℕ) → all_ascii_digits digits ≡ true → i < length digits → is_colon (get_or digits i 0) ≡ false
digit_at [] i all below = absurd (omega (arith, below))
digit_at (c ∷ cs) zero all below = grind (arith, nat_tests)
digit_at (c ∷ cs) (suc i) all below =
    let rest : all_ascii_digits cs ≡ true = grind (arith, nat_tests) in
    digit_at cs i rest (omega (arith, below))

no_plain : (digits : List ℕ) (i : ℕ) (b : Bool) → is_plain digits ≡ b → i < length digits → is_colon (get_or digits i 0) ≡ true
    → (if b then Some (digits_value 10 digits) else None) ≡ None
no_plain digits i false plain below colon = refl
no_plain digits i true plain below colon =
    let digit = digit_at digits i (plain-digits digits plain) below in
    absurd cc

no_magnitude : (digits : List ℕ) (i : ℕ) → i < length digits → is_colon (get_or digits i 0) ≡ true → magnitude_of digits ≡ None
no_magnitude digits i below colon = no_plain digits i (is_plain digits) refl below colon

no_number : (first : ℕ) (rest : List ℕ) (i : ℕ) (b : Bool) → (first == 45) ≡ b → i < length (first ∷ rest)
    → is_colon (get_or (first ∷ rest) i 0) ≡ true
    → (if b then negated (magnitude_of rest) else option_map (λ n. pos n) (magnitude_of (first ∷ rest))) ≡ None
no_number first rest zero true minus below colon = absurd (grind (arith, nat_tests))
no_number first rest (suc i) true minus below colon = rw (no_magnitude rest i (omega (arith, below)) colon) refl
no_number first rest i false minus below colon = rw (no_magnitude (first ∷ rest) i below colon) refl

number_of-colon : (word : List ℕ) (i : ℕ) → position is_colon word ≡ Some i → number_of word ≡ None
number_of-colon [] i found = refl
number_of-colon (first ∷ rest) i found =
    let at = position-Some is_colon (first ∷ rest) i 0 found in
    no_number first rest i (first == 45) refl at.0 at.1

no_index : (word : List ℕ) (z : ℤ) (index : Option ℕ) → position is_colon word ≡ index → number_of word ≡ Some z
    → is_some index ≡ false
no_index word z None nowhere number = refl
no_index word z (Some i) found number =
    let none = number_of-colon word i found in
    absurd cc

-- in a number stands no colon
pub position-number : (word : List ℕ) (z : ℤ) → number_of word ≡ Some z → is_some (position is_colon word) ≡ false
position-number word z number = no_index word z (position is_colon word) refl number
