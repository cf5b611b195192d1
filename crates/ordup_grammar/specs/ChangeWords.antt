-- The changes that words spell.
use Rattle.std.specs.Prelude.{ℕ, Bool, List, [], ◌∷◌, Option, Some, None, is_some}
use Rattle.std.specs.Prelude.{option_map, length, ◌==◌, if◌then◌else◌}
use Rattle.std.specs.List.{list_all, slice_split}
use Rattle.ordup_grammar.specs.declared.change_words.ChangeWord.{ChangeWord}
use Rattle.ordup_grammar.specs.Operations.{operation_of}

-- the change that exactly three parts spell: a kind, an object's name and an operand
abbrev pub change_of_parts : List (List ℕ) → Option ChangeWord
change_of_parts (kind ∷ name ∷ operand ∷ []) =
    if length name == 0 then None
    else option_map (λ operation. record { object = name; operation = operation }) (operation_of kind operand)
change_of_parts _ = None

-- the change that a word spells, by its parts, which stand between colons
abbrev pub change_of : List ℕ → Option ChangeWord
change_of word = change_of_parts (slice_split (λ byte. byte == 58) word)

-- each word spells a change
abbrev pub are_changes : List (List ℕ) → Bool
are_changes words = list_all (λ word. is_some (change_of word)) words

-- a change, where there is one, before others
abbrev pub onto_changes : Option ChangeWord → List ChangeWord → List ChangeWord
onto_changes None changes = changes
onto_changes (Some change) changes = change ∷ changes

-- the changes that words spell
abbrev pub changes_of : List (List ℕ) → List ChangeWord
changes_of [] = []
changes_of (word ∷ words) = onto_changes (change_of word) (changes_of words)
