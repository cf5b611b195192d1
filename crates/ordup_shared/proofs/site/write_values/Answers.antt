use Rattle.std.proofs.Common.{arith}
use Rattle.std.proofs.lemmas.Grind.{common_steps}
use Rattle.std.proofs.lemmas.Int.{to_z-of_z}
use Rattle.std.proofs.lemmas.List.{drop-set-lt, map_more, take_more_set}
use Rattle.ordup_shared.proofs.site.write_values.Goals as goal

pub loop-index-preserved : goal.loop-index-preserved
loop-index-preserved c = record {
  written = grind (arith, common_steps, to_z-of_z, take_more_set, map_more);
  rest = grind (arith, common_steps, drop-set-lt);
}
