use Rattle.std.specs.Prelude.{◌≡◌, ℕ, List, take}
use Rattle.ordup_series.proofs.record_end.same_front.Given as goal

-- they are the same so far
abbrev pub invariant-loop-index : goal.invariant-loop-index
invariant-loop-index l =
    let these : List ℕ = l.fn.these in
    let those : List ℕ = l.fn.those in
    take l.index these ≡ take l.index those
