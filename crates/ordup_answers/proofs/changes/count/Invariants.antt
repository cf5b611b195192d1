use Rattle.std.proofs.Common.{◌≡◌, ◌+◌, length}
use Rattle.ordup_answers.proofs.changes.count.Given as goal

abbrev pub invariant-loop-word : goal.invariant-loop-word
invariant-loop-word l = l.count + length l.rest ≡ length l.words

abbrev pub decreases-loop-word : goal.decreases-loop-word
decreases-loop-word l = length l.rest
