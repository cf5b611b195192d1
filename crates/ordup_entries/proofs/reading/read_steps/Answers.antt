use Rattle.std.proofs.Common.{◌+◌, ◌-◌, ◌++◌, ◌∷◌, [], length, arith, length-append}
use Rattle.ordup_entries.specs.Parts.{parts_of}
use Rattle.ordup_entries.specs.Orders.{part_behind, counted}
use Rattle.ordup_entries.specs.Reading.{steps_of}
use Rattle.ordup_entries.proofs.ReadingLemmas.{goes_on}
use Rattle.ordup_entries.proofs.reading.read_steps.Goals as goal

pub loop-rest-preserved : goal.loop-rest-preserved
loop-rest-preserved g c =
    let items = c.loop-rest.steps.items in
    let step = c.in-Some.step in
    let room = c.loop-rest.room - counted step in
    rw (c.in_ok-push.ensures.items, c.behind-part.ensures, c.counted-room.ensures)
    (goes_on items step (length items + 2) (length (items ++ step ∷ []) + 2) (λ n. steps_of n (part_behind step) room (parts_of c.in-Some.behind)) _ _
    (omega (arith, length-append items (step ∷ []))) (c.in-Some.ensures.next (length items + 2)) c.loop-rest.invariant)
