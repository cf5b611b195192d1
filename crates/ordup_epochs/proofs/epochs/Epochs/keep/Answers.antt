use Rattle.std.proofs.Common.{rules}
use Rattle.ordup_epochs.proofs.ArchiveLemmas.{archives_one_more}
use Rattle.ordup_epochs.proofs.epochs.Epochs.keep.Goals as goal
use Rattle.ordup_epochs.proofs.epochs.Epochs.keep.Goals.{in-Some-2, in_default}

pub loop-preserved : goal.loop-preserved
loop-preserved g c =
    elim c.match-branch-2.branch [
      | in-Some-2 w ↦
          (tt, tt, archives_one_more _ _ _ _ w.in-Some-2.ended _ _ _ c.loop.invariant.2 (search rules) (search rules))
      | in_default w ↦ (tt, tt, rw w.archive-is (rw w.successors-is c.loop.invariant.2))
    ]
