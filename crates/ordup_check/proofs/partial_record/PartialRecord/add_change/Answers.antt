use Rattle.std.proofs.Common.{rules}
use Rattle.ordup_check.specs.ColumnViews.{columns_view}
use Rattle.ordup_check.specs.PartialRecords.{record_so_far}
use Rattle.ordup_check.proofs.RowLemmas.{no_change, change_with, ok_by}
use Rattle.ordup_check.proofs.partial_record.PartialRecord.add_change.Goals as goal

pub returns-in_default : goal.returns-in_default
returns-in_default c = no_change c.args.decided (record_so_far c.args.self.now) (columns_view c.args.c.now) (search rules)

pub returns : goal.returns
returns c =
    ok_by c.add_any_change.result _ _ _ c.add_any_change.ensures
    (change_with c.args.decided (record_so_far c.args.self.now) (columns_view c.args.c.now) c.in-Some.change (search rules))
