use Rattle.std.proofs.Common.{◌≡◌, ◌-◌, ◌≤◌, false}
use Rattle.ordup_holds.proofs.waiting.until.Given as goal

-- no more turns are made than there may be, and none of them was refused a growth
abbrev pub invariant-loop-pause : goal.invariant-loop-pause
invariant-loop-pause g l = (g.T.Turns.made_of l.store ≤ l.turns) × (g.T.Turns.refused_of l.store ≡ false)

abbrev pub decreases-loop-pause : goal.decreases-loop-pause
decreases-loop-pause g l = l.turns - g.T.Turns.made_of l.store
