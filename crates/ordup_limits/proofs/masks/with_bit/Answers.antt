use Rattle.ordup_limits.proofs.MaskLemmas.{bit-set, bit-cleared}
use Rattle.ordup_limits.proofs.masks.with_bit.Goals as goal

pub returns-then-is_set : goal.returns-then-is_set
returns-then-is_set c = λ i few. rw c.if-is_set.true (bit-set c.args.mask c.args.index i c.requires)

pub returns-else-is_set : goal.returns-else-is_set
returns-else-is_set c = λ i few. rw c.if-is_set.false (bit-cleared c.args.mask c.args.index i c.requires few)
