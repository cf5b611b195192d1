use Rattle.ordup_audit.proofs.RecordLemmas.{log-whole}
use Rattle.ordup_audit.proofs.record.Record.log.Goals as goal

pub returns-clause-whole : goal.returns-clause-whole
returns-clause-whole g c = rw (← c.self.view_is) (log-whole c.self.inside.parts c.self.invariant)
