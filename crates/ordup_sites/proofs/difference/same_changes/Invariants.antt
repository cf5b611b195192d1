use Rattle.std.specs.Prelude.{◌≡◌, List, take}
use Rattle.ordup_objects.specs.declared.change.Change.{Change}
use Rattle.ordup_sites.proofs.difference.same_changes.Given as goal

-- they are the same so far
abbrev pub invariant-loop-index : goal.invariant-loop-index
invariant-loop-index l =
    let these : List Change = l.fn.these in
    let those : List Change = l.fn.those in
    take l.index these ≡ take l.index those
