use Rattle.std.proofs.Common.{rules}
use Rattle.ordup_check.specs.ColumnViews.{columns_view}
use Rattle.ordup_check.specs.PartialRecords.{record_so_far}
use Rattle.ordup_check.proofs.RowLemmas.{no_next_change}
use Rattle.ordup_check.proofs.partial_record.PartialRecord.add_any_change.Goals as goal

pub returns-then-len-eq0 : goal.returns-then-len-eq0
returns-then-len-eq0 c =
    no_next_change c.args.decided (record_so_far c.args.self.now) (columns_view c.args.c.now) c.args.change (search rules) (search rules)
