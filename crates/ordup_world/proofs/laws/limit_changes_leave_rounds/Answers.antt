use Rattle.ordup_world.proofs.ChangeLemmas.{rounds-decided}
use Rattle.ordup_world.proofs.laws.limit_changes_leave_rounds.Goals as goal

pub returns : goal.returns
returns g c = rounds-decided g.row.A.Denot
