use Rattle.std.proofs.Common.{◌==◌, take}
use Rattle.std.specs.List.{list_any}
use Rattle.ordup_limits.specs.Masks.{GainBit}
use Rattle.ordup_limits.proofs.masks.Masks.put_members.Given as goal

-- the limit is put down for the members so far
abbrev pub invariant-loop-member : goal.invariant-loop-member
invariant-loop-member g l = GainBit (λ x. list_any (λ y. y == x) (take l.member-index l.members)) l.limit l.fn.self l.self
