use Rattle.std.proofs.Common.{◌≡◌, length}
use Rattle.ordup_objects.specs.Sets.{AreKnown}
use Rattle.bench_calls.proofs.carrying.send_all.Given as goal

abbrev pub invariant-loop-i : goal.invariant-loop-i
invariant-loop-i g l = (length l.end.pushed ≡ l.i) × AreKnown (length l.end.start) l.set
