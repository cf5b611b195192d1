use Rattle.std.specs.Prelude.{nat_lt}
use Rattle.ordup_limits.specs.Masks.{GainBit}
use Rattle.ordup_limits.proofs.masks.Masks.put_all.Given as goal

-- the limit is put down for the objects so far
abbrev pub invariant-loop-object : goal.invariant-loop-object
invariant-loop-object g l = GainBit (λ x. nat_lt x l.object) l.limit l.fn.self l.self
