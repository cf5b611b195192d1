use Rattle.std.proofs.Common.{◌≡◌, take}
use Rattle.ordup_log.proofs.GroupLemmas.{groups_of}
use Rattle.ordup_log.proofs.groups.copy_all.Given as goal

-- the groups so far
abbrev pub invariant-loop-index : goal.invariant-loop-index
invariant-loop-index g l = groups_of l.copy ≡ groups_of (take l.index l.groups)
