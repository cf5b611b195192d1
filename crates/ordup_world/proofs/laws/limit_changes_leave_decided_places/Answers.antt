use Rattle.ordup_world.proofs.ChangeLemmas.{limits-decided}
use Rattle.ordup_world.proofs.laws.limit_changes_leave_decided_places.Goals as goal

pub returns : goal.returns
returns g c = limits-decided g.row.A.Denot
