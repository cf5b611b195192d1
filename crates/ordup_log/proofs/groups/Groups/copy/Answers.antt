use Rattle.std.proofs.Common.{rules}
use Rattle.ordup_log.proofs.GroupLemmas.{are_groups-same}
use Rattle.ordup_log.proofs.groups.Groups.copy.Goals as goal

pub invariant_of-result : goal.invariant_of-result
invariant_of-result g c = are_groups-same c.copy_all.new.copy c.self.inside.groups (search rules) c.self.invariant
