use Rattle.std.proofs.Common.{◌≡◌, length}
use Rattle.tests_of_threads.proofs.feed.two_threads.send_all.Given as goal

abbrev pub invariant-loop-i : goal.invariant-loop-i
invariant-loop-i g l = (length l.end.pushed ≡ l.i) × (length l.end.start ≡ length l.objects)
