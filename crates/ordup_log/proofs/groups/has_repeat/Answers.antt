use Rattle.std.proofs.Common.{arith, nat_eq}
use Rattle.std.proofs.lemmas.Grind.{common_steps}
use Rattle.ordup_objects.proofs.RepeatLemmas.{repeats-more}
use Rattle.ordup_log.proofs.groups.has_repeat.Goals as goal

pub loop-i-preserved : goal.loop-i-preserved
loop-i-preserved c = grind (arith, common_steps, repeats-more nat_eq)
