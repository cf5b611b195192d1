use Rattle.std.proofs.Common.{◌≡◌, ◌+◌, ◌≤◌, ◌∷◌, ◌++◌, length}
use Rattle.std.specs.Prelude.{vec_len, vec_capacity}
use Rattle.ordup_grammar.specs.ChangeWords.{are_changes, changes_of}
use Rattle.ordup_answers.specs.Changes.{changes_in}
use Rattle.ordup_answers.specs.NearestNumbers.{nearest_changes}
use Rattle.ordup_answers.proofs.changes.changes_after.Given as goal

-- the changes so far and those that are left are all of them, and there is spare capacity
abbrev pub invariant-loop-word : goal.invariant-loop-word
invariant-loop-word g l =
    (l.changes.items ++ changes_in l.objects (nearest_changes (changes_of l.rest))
    ≡ l.fn.first ∷ changes_in l.objects (nearest_changes (changes_of l.words)))
    × (are_changes l.rest ≡ are_changes l.words)
    × (vec_len l.changes + length l.rest ≤ vec_capacity l.changes)

abbrev pub decreases-loop-word : goal.decreases-loop-word
decreases-loop-word g l = length l.rest
