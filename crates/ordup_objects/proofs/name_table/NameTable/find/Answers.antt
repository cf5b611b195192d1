use Rattle.std.proofs.Common.{◌∙◌, sym}
use Rattle.ordup_objects.proofs.TableLemmas.{index_of-at}
use Rattle.ordup_objects.proofs.name_table.NameTable.find.Goals as goal

pub returns-then-is_spelled-clause-index : goal.returns-then-is_spelled-clause-index
returns-then-is_spelled-clause-index g c =
    sym (index_of-at c.args.self.now c.guess-index.result c.at.result.0.now c.args.name.now c.at.result.1.now c.len.ensures.distinct
    c.at.ensures.entry (sym c.is_spelled.ensures ∙ c.if-is_spelled.true))
