use Rattle.ordup_audit.proofs.Common.{rules, to_z-of_z, w64}
use Rattle.ordup_check.specs.ColumnViews.{columns_view}
use Rattle.ordup_check.specs.PartialRecords.{record_so_far}
use Rattle.ordup_check.proofs.RowLemmas.{no_object, object_with, ok_by}
use Rattle.ordup_check.proofs.partial_record.PartialRecord.add_object.Goals as goal

pub returns-in_default : goal.returns-in_default
returns-in_default c = no_object (record_so_far c.args.self.now) (columns_view c.args.c.now) (search rules)

pub returns : goal.returns
returns c =
    ok_by c.add_value.result _ _ _ (rw (to_z-of_z w64 c.in-Some.value (search rules)) at c.add_value.ensures)
    (object_with (record_so_far c.args.self.now) (columns_view c.args.c.now) c.in-Some.value (search rules))
