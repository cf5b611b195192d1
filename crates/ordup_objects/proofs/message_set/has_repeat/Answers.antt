use Rattle.std.proofs.Common.{arith}
use Rattle.std.proofs.lemmas.Grind.{common_steps}
use Rattle.ordup_objects.specs.Sets.{are_of_one_object}
use Rattle.ordup_objects.proofs.RepeatLemmas.{repeats-more}
use Rattle.ordup_objects.proofs.message_set.has_repeat.Goals as goal

pub loop-i-preserved : goal.loop-i-preserved
loop-i-preserved c = grind (arith, common_steps, repeats-more are_of_one_object)
