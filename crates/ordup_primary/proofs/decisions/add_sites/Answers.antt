use Rattle.std.proofs.Common.{arith}
use Rattle.std.proofs.lemmas.Grind.{common_steps}
use Rattle.ordup_primary.proofs.decisions.add_sites.Goals as goal

pub loop-site-preserved : goal.loop-site-preserved
loop-site-preserved g c = grind (arith, common_steps)

pub returns-clause-sites : goal.returns-clause-sites
returns-clause-sites g c = grind (arith, common_steps)
