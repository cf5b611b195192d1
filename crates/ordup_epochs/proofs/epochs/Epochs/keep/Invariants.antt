use Rattle.std.proofs.Common.{◌≡◌, List, length, min, ◌^◌, ◌-◌}
use Rattle.ordup_cluster.specs.Clusters.{ClosedState}
use Rattle.ordup_epochs.specs.Archives.{ArchivesAll}
use Rattle.ordup_epochs.proofs.epochs.Epochs.keep.Given as goal

-- what was put into the archive so far is counted
abbrev pub invariant-loop : goal.invariant-loop
invariant-loop g l =
    (goal.iterator-loop g).can_next l.iterator' × (goal.iterator-loop g).is_finite l.iterator'
    × ((all : List ClosedState) × ArchivesAll g.A.Archive.adds l.fn.archive all l.archive
    × (l.successors ≡ min (length all) (2 ^ 64 - 1)))
