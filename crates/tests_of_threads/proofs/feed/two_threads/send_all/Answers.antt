use Rattle.std.proofs.Common.{arith}
use Rattle.tests_of_threads.proofs.feed.two_threads.send_all.Goals as goal

pub push-requires : goal.push-requires
push-requires g c = let count = c.loop-i.invariant.0 in c.parcel.ensures _ _ c.loop-i.invariant.1 (omega (arith, count))
