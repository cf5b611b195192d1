use Rattle.std.proofs.Common.{◌≡◌, Some, arith}
use Rattle.std.proofs.lemmas.Grind.{common_steps}
use Rattle.std.specs.Prelude.{slice_get}
use Rattle.ordup_objects.proofs.TableLemmas.{index_of-before}
use Rattle.ordup_objects.proofs.name_table.NameTable.at.Goals as goal

pub returns : goal.returns
returns g c =
    let table = c.args.self.now in
    let name = c.unwrap.result.0.now in
    let entry = c.unwrap.result.1.now in
    let is : slice_get table c.args.index ≡ Some (name, entry) = grind (arith, common_steps) in
    record { entry = is; first = index_of-before table c.args.index name entry c.keeps.ensures.distinct is }

pub unwrap-requires : goal.unwrap-requires
unwrap-requires g c = grind (arith, common_steps)
