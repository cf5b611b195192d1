-- What is a word, and what is a line of words.
use Rattle.std.proofs.Common.{◌≡◌, refl, ℕ, suc, ◌^◌, ◌<◌, ◌≤◌, ℤ, pos, negsuc, unsigned_abs, Bool, true, false}
use Rattle.std.proofs.Common.{List, [], ◌∷◌, length, arith}
use Rattle.std.specs.Prelude.{◌==◌, ◌&&◌, nat_le, nat_lt}
use Rattle.std.specs.Char.{is_ascii_digit}
use Rattle.std.specs.Fmt.{decimal, signed_decimal}
use Rattle.std.specs.List.{All, list_all}
use Rattle.std.specs.Str.{all_ascii_digits}
use Rattle.std.proofs.lemmas.Bool.{and_parts, and_from}
use Rattle.std.proofs.lemmas.Bool.Decides.{nat_tests}
use Rattle.std.proofs.lemmas.Fmt.{decimal_nonempty, digits_decimal, length-decimal-le}
use Rattle.std.proofs.lemmas.List.Elements.{All-cons, All-weaker}
use Rattle.ordup_objects.specs.Names.{is_name, is_name_byte}
use Rattle.ordup_grammar.specs.Requests.{is_comment}
use Rattle.ordup_grammar.proofs.Decimals.{numerals}
use Rattle.ordup_succession.specs.Lines.{spaced}
use Rattle.ordup_succession.proofs.Words.{IsWord, IsWordLine, is_word_byte}

-- ---- names and numbers

-- bytes of one kind are bytes of words
bytes_of_word : (p : ℕ → Bool) → ((b : ℕ) → p b ≡ true → is_word_byte b ≡ true) → (bytes : List ℕ) → list_all p bytes ≡ true
    → list_all is_word_byte bytes ≡ true
bytes_of_word p f [] h = refl
bytes_of_word p f (b ∷ bytes) h =
    let both = and_parts (p b) (list_all p bytes) h in
    and_from (is_word_byte b) (list_all is_word_byte bytes) (f b both.0) (bytes_of_word p f bytes both.1)

name_byte : (b : ℕ) → is_name_byte b ≡ true → is_word_byte b ≡ true
name_byte b h = grind (arith, nat_tests)

-- a name is a word
pub name_is_word : (name : List ℕ) → is_name name ≡ true → IsWord name
name_is_word [] h = absurd cc
name_is_word (b ∷ name) h = record {
  some = omega arith;
  few = grind (arith, nat_tests);
  bytes = bytes_of_word is_name_byte name_byte (b ∷ name) (and_parts _ (list_all is_name_byte (b ∷ name)) h).1;
}

digit_byte : (b : ℕ) → is_ascii_digit b ≡ true → is_word_byte b ≡ true
digit_byte b h = grind (arith, nat_tests)

digits_of_word : (digits : List ℕ) → all_ascii_digits digits ≡ true → list_all is_word_byte digits ≡ true
digits_of_word [] h = refl
digits_of_word (b ∷ digits) h =
    let both = and_parts (is_ascii_digit b) (all_ascii_digits digits) h in
    and_from (is_word_byte b) (list_all is_word_byte digits) (digit_byte b both.0) (digits_of_word digits both.1)

decimal_bytes : (n : ℕ) → n < 10 ^ 19 → list_all is_word_byte (decimal n) ≡ true
decimal_bytes n small = digits_of_word (decimal n) (digits_decimal numerals n (omega arith))

decimal_length : (n : ℕ) → n < 10 ^ 19 → length (decimal n) ≤ 19
decimal_length n small = length-decimal-le 19 n (omega arith) small (omega arith)

-- the decimal text of a number is a word
pub decimal_is_word : (n : ℕ) → n < 10 ^ 19 → IsWord (decimal n)
decimal_is_word n small = record {
  some = decimal_nonempty n (omega arith);
  few = omega (arith, decimal_length n small);
  bytes = decimal_bytes n small;
}

-- so is that of a number with a sign
pub number_is_word : (z : ℤ) → unsigned_abs z < 10 ^ 19 → IsWord (signed_decimal z)
number_is_word (pos n) small = decimal_is_word n small
number_is_word (negsuc n) small = record {
  some = omega arith;
  few = omega (arith, decimal_length (suc n) (omega arith));
  bytes = decimal_bytes (suc n) (omega arith);
}

-- ---- other words

-- whether bytes are a word
abbrev pub is_word : List ℕ → Bool
is_word word = nat_lt 0 (length word) && nat_le (length word) 20 && list_all is_word_byte word

-- a word that is written out is tested: the second argument is `refl`
pub tested_is_word : (word : List ℕ) → is_word word ≡ true → IsWord word
tested_is_word word h = record {
  some = grind (arith, nat_tests);
  few = grind (arith, nat_tests);
  bytes = (and_parts _ (list_all is_word_byte word) h).1;
}

-- names are words
pub names_are_words : (names : List (List ℕ)) → All (λ name. is_name name ≡ true) names → All IsWord names
names_are_words = All-weaker (λ name. is_name name ≡ true) IsWord name_is_word

-- ---- lines of words

-- a word that begins with no number sign begins no comment
no_comment : (byte : ℕ) (bytes : List ℕ) (words : List (List ℕ)) → (byte == 35) ≡ false
    → is_comment (spaced ((byte ∷ bytes) ∷ words)) ≡ false
no_comment byte bytes [] h = h
no_comment byte bytes (word ∷ words) h = h

-- a word that begins with no number sign, and words after it, are a line
pub word_line : (byte : ℕ) (bytes : List ℕ) (words : List (List ℕ)) → (byte == 35) ≡ false → IsWord (byte ∷ bytes) → All IsWord words
    → length words ≤ 99
    → IsWordLine ((byte ∷ bytes) ∷ words)
word_line byte bytes words h first rest few = record {
  some = omega arith;
  few = omega (arith, few);
  each = All-cons IsWord (byte ∷ bytes) words first rest;
  command = no_comment byte bytes words h;
}
