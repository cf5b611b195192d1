use Rattle.std.proofs.Common.{refl}
use Rattle.ordup_audit.proofs.RecordLemmas.{lent-count}
use Rattle.ordup_audit.proofs.record_view.RecordView.decided.Goals as goal

pub returns : goal.returns
returns g c =
    rw (← c.self.view_is, lent-count c.self.inside.logged c.self.inside.log.now.sets c.self.inside.rest.now c.self.invariant.logged)
    refl
