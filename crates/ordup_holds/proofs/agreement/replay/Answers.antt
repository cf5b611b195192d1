use Rattle.std.proofs.Common.{arith}
use Rattle.ordup_holds.proofs.CellLemmas.{known-at}
use Rattle.ordup_holds.proofs.agreement.replay.Goals as goal

pub apply-requires : goal.apply-requires
apply-requires c =
    rw c.set.ensures.set
    (known-at _ c.loop-number.values c.loop-number.number c.set.ensures.legal
    (let there = c.requires.there in let end = c.loop-number.auto.number-end in let at = c.loop-number-test.true in omega arith)
    c.loop-number.invariant)
