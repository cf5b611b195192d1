use Rattle.std.proofs.Common.{rules}
use Rattle.ordup_log.proofs.GroupLemmas.{IsGroup-push}
use Rattle.ordup_log.proofs.groups.check_member.Goals as goal

pub returns-clause-group : goal.returns-clause-group
returns-clause-group c = IsGroup-push c.args.members.now c.args.member c.requires (search rules) (search rules)
