use Rattle.std.proofs.Common.{arith, to_z, of_z, w64}
use Rattle.std.proofs.lemmas.Grind.{common_steps}
use Rattle.std.proofs.lemmas.Int.{to_z-of_z}
use Rattle.ordup_query.proofs.ImportLemmas.{import-import_of, import-near}
use Rattle.ordup_query.proofs.query.Query.read.Goals as goal

pub returns-clause-imported : goal.returns-clause-imported
returns-clause-imported g c =
    import-import_of c.args.site.now c.args.self.now.marks c.args.object c.abs_diff-import.result c.requires.marked
    (grind (arith, common_steps))

pub returns-clause-near : goal.returns-clause-near
returns-clause-near g c =
    import-near c.args.site.now c.args.self.now.marks c.args.object c.abs_diff-import.result (to_z w64 (of_z w64 c.value-value.result))
    c.requires.marked (grind (arith, common_steps)) (grind (arith, common_steps, to_z-of_z))
