use Rattle.std.proofs.Common.{arith}
use Rattle.std.proofs.lemmas.Grind.{common_steps}
use Rattle.ordup_primary.proofs.site_list.SiteList.keeps.Goals as goal

pub returns : goal.returns
returns c = grind (arith, common_steps, c.self.invariant.few, c.self.view_is)
