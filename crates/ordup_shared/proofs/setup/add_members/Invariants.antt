use Rattle.std.proofs.Common.{◌≡◌, map, take}
use Rattle.ordup_shared.specs.Setups.{member_of}
use Rattle.ordup_shared.proofs.setup.add_members.Given as goal

abbrev pub invariant-loop-index : goal.invariant-loop-index
invariant-loop-index l = l.members.items ≡ map member_of (take l.index l.objects)
