use Rattle.std.proofs.Common.{◌+◌, ap}
use Rattle.std.proofs.lemmas.List.{drop_all}
use Rattle.std.proofs.lemmas.Result.{err_from_is_err_and}
use Rattle.ordup_rows.specs.Rows.{counted, member_row}
use Rattle.ordup_rows.proofs.FormLemmas.{all_written}
use Rattle.ordup_rows.proofs.forming.push_members.Goals as goal

pub returns-in_err-push_member : goal.returns-in_err-push_member
returns-in_err-push_member g c =
    let failed = err_from_is_err_and c.from_residual.result c.from_residual.ensures.1 in
    rw failed.1 (record { clean = tt; text = tt })

pub returns : goal.returns
returns g c =
    let row = member_row c.args.objects.now c.args.group.now in
    let all = drop_all c.loop-i.i c.args.members.now c.loop-i-test.false in
    all_written c.args.rows.now c.loop-i.rows _ (counted row c.args.first c.args.members.now) (ap (counted row (c.args.first + c.loop-i.i)) all)
    c.loop-i.invariant
