-- The words of a line.
use Rattle.std.specs.Prelude.{ℕ, ℤ, Bool, false, not, List, [], ◌∷◌, Option, Some, None, option_map, option_and_then, length, filter, ◌==◌}
use Rattle.std.specs.List.{slice_split}
use Rattle.ordup_grammar.specs.Numbers.{number_of}

-- whether the first byte of a text is this one
abbrev pub begins_with : ℕ → List ℕ → Bool
begins_with byte [] = false
begins_with byte (first ∷ rest) = first == byte

-- what stands between spaces, where there is a byte
abbrev pub words_of : List ℕ → List (List ℕ)
words_of line = filter (λ word. not (length word == 0)) (slice_split (λ byte. byte == 32) line)

-- the word, where there is exactly one
abbrev pub only_word : List (List ℕ) → Option (List ℕ)
only_word (word ∷ []) = Some word
only_word _ = None

-- the words, where there are exactly two
abbrev pub two_words : List (List ℕ) → Option (List ℕ × List ℕ)
two_words (word ∷ next ∷ []) = Some (word, next)
two_words _ = None

-- the name and the number, where there are exactly these two words
abbrev pub name_and_number : List (List ℕ) → Option (List ℕ × ℤ)
name_and_number (name ∷ number ∷ []) = option_map (λ n. (name, n)) (number_of number)
name_and_number _ = None

-- the number, where it is the only word
abbrev pub only_number : List (List ℕ) → Option ℤ
only_number words = option_and_then number_of (only_word words)
