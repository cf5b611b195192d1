use Rattle.std.proofs.Common.{◌≡◌, length}
use Rattle.ordup_grammar.specs.ChangeWords.{are_changes}
use Rattle.ordup_answers.proofs.changes.syntax_or.Given as goal

-- the words so far spell changes
abbrev pub invariant-loop-word : goal.invariant-loop-word
invariant-loop-word l = are_changes l.rest ≡ are_changes l.words

abbrev pub decreases-loop-word : goal.decreases-loop-word
decreases-loop-word l = length l.rest
