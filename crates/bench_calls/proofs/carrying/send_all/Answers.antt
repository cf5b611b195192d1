use Rattle.std.proofs.Common.{arith}
use Rattle.bench_calls.proofs.carrying.send_all.Goals as goal

pub push-requires : goal.push-requires
push-requires g c =
    let count = c.loop-i.invariant.0 in
    c.in_ok-parcel.ensures.next _ _ (rw c.in_ok-parcel.ensures.copied c.loop-i.invariant.1) (omega (arith, count))
