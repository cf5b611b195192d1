-- The fields of a line: how each is read from what is left of the line. A field begins with a space and a word.
use Rattle.std.specs.Prelude.{ℕ, Bool, ◌&&◌, ◌==◌, List, [], ◌∷◌, length, take, drop, Option, Some, None}
use Rattle.std.specs.Prelude.{option_map, option_and_then, if◌then◌else◌}
use Rattle.std.specs.List.{position_or_len}
use Rattle.std.specs.Str.{bytes_eq}
use Rattle.ordup_grammar.specs.Numbers.{number_of, amount_of}
use Rattle.ordup_entries.specs.Words.{within, is_changes}

abbrev pub is_space : ℕ → Bool
is_space byte = byte == 32

-- the bytes up to the first space, and those from it on
abbrev pub first_word : List ℕ → List ℕ × List ℕ
first_word bytes = (take (position_or_len is_space bytes) bytes, drop (position_or_len is_space bytes) bytes)

-- a word behind a space, and what is left
abbrev pub word_at : List ℕ → Option (List ℕ × List ℕ)
word_at [] = None
word_at (first ∷ rest) = if is_space first then Some (first_word rest) else None

-- a word that passes a test
abbrev pub tested_at : (List ℕ → Bool) → List ℕ → Option (List ℕ × List ℕ)
tested_at is bytes = option_and_then (λ w. if is w.0 then Some w else None) (word_at bytes)

-- what is left behind this word
abbrev pub behind : List ℕ → List ℕ → Option (List ℕ)
behind word bytes = option_and_then (λ w. if bytes_eq w.0 word then Some w.1 else None) (word_at bytes)

-- a number, where it lies from one to another
abbrev pub number_within : ℕ → ℕ → List ℕ → Option ℕ
number_within least most word =
    option_and_then (λ z. if within least most (amount_of z) then Some (amount_of z) else None) (number_of word)

-- a word that writes such a number
abbrev pub number_at : ℕ → ℕ → List ℕ → Option (ℕ × List ℕ)
number_at least most bytes = option_and_then (λ w. option_map (λ n. (n, w.1)) (number_within least most w.0)) (word_at bytes)

-- the rest of the line behind a space
abbrev pub text_at : List ℕ → Option (List ℕ)
text_at [] = None
text_at (first ∷ rest) = if is_space first && is_changes rest then Some rest else None

-- a field that ends the line
abbrev pub last : {X : Type 0} → (List ℕ → Option (X × List ℕ)) → List ℕ → Option X
last field bytes = option_and_then (λ x. if length x.1 == 0 then Some x.0 else None) (field bytes)

-- a field, and what ends the line behind it
abbrev pub both : {X Y : Type 0} → (List ℕ → Option (X × List ℕ)) → (List ℕ → Option Y) → List ℕ → Option (X × Y)
both field end bytes = option_and_then (λ x. option_map (λ y. (x.0, y)) (end x.1)) (field bytes)

-- a word that is known, and what ends the line behind it
abbrev pub after : {X : Type 0} → List ℕ → (List ℕ → Option X) → List ℕ → Option X
after word end bytes = option_and_then end (behind word bytes)
