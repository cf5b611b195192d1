use Rattle.std.specs.Prelude.{◌++◌}
use Rattle.ordup_check.proofs.UpdateLemmas.{last_changed}
use Rattle.ordup_check.proofs.partial_updates.PartialUpdates.add_change.Goals.{in-Some, in-None}
use Rattle.ordup_check.proofs.partial_updates.PartialUpdates.add_change.Goals as goal

pub returns-clause-added : goal.returns-clause-added
returns-clause-added c = elim c.match-self.branch [
  | in-Some w ↦ (let b = w.in-Some.begun in
      rw (w.result-is, w.self-inside-is, ← c.self.view_is, w.in-Some.is)
      (last_changed c.self.inside.objects (b.log.sets ++ b.rest.items) b.last _ c.args.change w.add.result w.add.ensures.added))
  | in-None w ↦ rw w.result-is tt
]
