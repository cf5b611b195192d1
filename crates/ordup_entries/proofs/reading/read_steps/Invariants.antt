use Rattle.std.proofs.Common.{◌≡◌, ◌+◌, length}
use Rattle.ordup_entries.specs.Parts.{parts_of}
use Rattle.ordup_entries.specs.Sizes.{most_counted}
use Rattle.ordup_entries.specs.Reading.{steps_of}
use Rattle.ordup_entries.specs.declared.order.Part.TheVariants.{Start}
use Rattle.ordup_entries.proofs.ReadingLemmas.{with_front}
use Rattle.ordup_entries.proofs.reading.read_steps.Given as goal

-- the steps so far, and those of what is left, are all of them
abbrev pub invariant-loop-rest : goal.invariant-loop-rest
invariant-loop-rest g l =
    with_front l.steps.items (steps_of (length l.steps.items + 2) l.part l.room (parts_of l.rest))
    ≡ steps_of 2 Start most_counted (parts_of l.fn.lines)

abbrev pub decreases-loop-rest : goal.decreases-loop-rest
decreases-loop-rest g l = length l.rest
