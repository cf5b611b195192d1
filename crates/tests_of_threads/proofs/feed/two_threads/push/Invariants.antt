use Rattle.std.proofs.Common.{◌≡◌}
use Rattle.ordup_feed.specs.Parcels.{IsNext}
use Rattle.tests_of_threads.proofs.feed.two_threads.push.Given as goal

abbrev pub invariant-loop : goal.invariant-loop
invariant-loop g l =
    IsNext l.end.start l.end.pushed l.parcel × (l.end.start ≡ l.fn.end.start) × (l.end.pushed ≡ l.fn.end.pushed)
