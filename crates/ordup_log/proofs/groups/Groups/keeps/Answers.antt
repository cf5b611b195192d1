use Rattle.ordup_log.proofs.GroupLemmas.{are_groups-view, AreNames-view, AreDistinct-view}
use Rattle.ordup_log.proofs.groups.Groups.keeps.Goals as goal

pub returns-clause-groups : goal.returns-clause-groups
returns-clause-groups g c = are_groups-view c.self.inside.groups c.args.self.now c.self.view_is c.self.invariant.1

pub returns-clause-names : goal.returns-clause-names
returns-clause-names g c = AreNames-view c.self.inside.groups c.args.self.now c.self.view_is c.keeps.ensures.names

pub returns-clause-distinct : goal.returns-clause-distinct
returns-clause-distinct g c = AreDistinct-view c.self.inside.groups c.args.self.now c.self.view_is c.keeps.ensures.distinct
