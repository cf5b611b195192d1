use Rattle.std.proofs.Common.{◌∙◌}
use Rattle.ordup_limits.proofs.PutLemmas.{position-none}
use Rattle.ordup_limits.proofs.limit_list.LimitList.index_for.Goals as goal

pub returns-in-None : goal.returns-in-None
returns-in-None c = c.len.ensures.len ∙ position-none _ c.args.self.now c.in-None.ensures
