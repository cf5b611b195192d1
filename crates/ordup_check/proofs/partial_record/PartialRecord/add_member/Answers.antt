-- The last group, or a new one, refuses the member where no record has such a row, or for want of memory.
use Rattle.std.proofs.Common.{rules}
use Rattle.ordup_check.specs.ColumnViews.{columns_view}
use Rattle.ordup_check.specs.PartialRecords.{record_so_far}
use Rattle.ordup_check.proofs.RowLemmas.{member_by, ok_by, refused_last, refused_new, refused_row}
use Rattle.ordup_check.proofs.partial_record.PartialRecord.add_member.Goals as goal

pub returns-in-Err : goal.returns-in-Err
returns-in-Err c =
    ok_by c.not_taken.result _ _ _
    (refused_row c.not_taken.result _ c.in-Err.refusal _ _ _ c.not_taken.ensures
    (refused_last _ _ c.args.c.now.second.now _ _ (search rules)
    (rw c.objects-then-is_last_group.ensures at c.in-Err.ensures.refused)))
    (member_by (record_so_far c.args.self.now) (columns_view c.args.c.now) c.in-Some.member (search rules))

pub returns-in-Err-declare : goal.returns-in-Err-declare
returns-in-Err-declare c =
    ok_by c.not_taken-in-Err-declare.result _ _ _
    (refused_row c.not_taken-in-Err-declare.result _ c.in-Err-declare.refusal _ _ _ c.not_taken-in-Err-declare.ensures
    (refused_new _ _ c.args.c.now.second.now _ _ (search rules)
    (rw c.objects-else-is_last_group.ensures at c.in-Err-declare.ensures.refused)))
    (member_by (record_so_far c.args.self.now) (columns_view c.args.c.now) c.in-Some.member (search rules))
