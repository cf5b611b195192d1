use Rattle.std.proofs.Common.{ℕ, ◌-◌, length}
use Rattle.ordup_holds.specs.Turning.{SameFeeds, Acknowledges}
use Rattle.ordup_holds.proofs.turning.settle_all.Given as goal

-- each settlement so far acknowledged the head
abbrev pub invariant-loop-primary : goal.invariant-loop-primary
invariant-loop-primary l = SameFeeds l.fn.primary l.primary × ((n : ℕ) × Acknowledges n l.fn.primary l.primary)

abbrev pub decreases-loop-primary : goal.decreases-loop-primary
decreases-loop-primary l = length l.primary.log.sets - l.primary.acked
