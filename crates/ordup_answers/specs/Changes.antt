-- The changes and the message set that change words stand for, over the objects that are declared.
use Rattle.std.specs.Prelude.{ℕ, ℤ, List, length, map, Result}
use Rattle.ordup_objects.specs.Ops.{op_with}
use Rattle.ordup_objects.specs.Sets.{set_refusal}
use Rattle.ordup_objects.specs.declared.change.Change.{Change}
use Rattle.ordup_objects.specs.declared.change.Op.{Op}
use Rattle.ordup_objects.specs.declared.change.Op.TheVariants.{Take}
use Rattle.ordup_objects.specs.declared.refusal.Refusal.{Refusal}
use Rattle.ordup_grammar.specs.declared.change_words.ChangeWord.{ChangeWord}
use Rattle.ordup_grammar.specs.declared.change_words.Operation.{Operation}
use Rattle.ordup_grammar.specs.declared.change_words.Operation.TheVariants as word
use Rattle.ordup_answers.specs.Names.{index_among}
use Rattle.ordup_answers.specs.Refusals.{unless}

-- the operation over these objects
abbrev pub op_in : List (List ℕ × ℤ) → Operation → Op
op_in objects (word.WithNumber k n) = op_with k n
op_in objects (word.Take y) = Take (index_among objects y)

-- the change of these objects
abbrev pub change_in : List (List ℕ × ℤ) → ChangeWord → Change
change_in objects c = record { object = index_among objects c.object; op = op_in objects c.operation }

-- the changes of these objects
abbrev pub changes_in : List (List ℕ × ℤ) → List ChangeWord → List Change
changes_in objects changes = map (change_in objects) changes

-- the message set of these changes, or why they are none
abbrev pub set_in : List (List ℕ × ℤ) → List ChangeWord → Result (List Change) Refusal
set_in objects changes = unless (set_refusal (length objects) (changes_in objects changes)) (changes_in objects changes)
