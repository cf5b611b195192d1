use Rattle.std.specs.Prelude.{◌≡◌, List, take}
use Rattle.ordup_objects.specs.declared.change.Change.{Change}
use Rattle.ordup_sites.proofs.difference.first_other_change.Given as goal

-- the updates so far are the same
abbrev pub invariant-loop-index : goal.invariant-loop-index
invariant-loop-index g l =
    let these : List (List Change) = l.fn.other.sets in
    let those : List (List Change) = l.fn.audited.sets in
    take l.index these ≡ take l.index those
