-- Within an update the changes are counted from 1. Their rows go behind one another, until no change is left.
use Rattle.std.proofs.Common.{◌+◌, ap, refl}
use Rattle.std.proofs.lemmas.List.{drop_all}
use Rattle.std.proofs.lemmas.Result.{err_from_is_err_and}
use Rattle.ordup_rows.specs.Rows.{change_row, counted}
use Rattle.ordup_rows.proofs.FormLemmas.{all_written}
use Rattle.ordup_rows.proofs.forming.push_set.Goals as goal

pub loop-i-init : goal.loop-i-init
loop-i-init g c = (c.requires.clean, refl)

pub returns-in_err-push_change : goal.returns-in_err-push_change
returns-in_err-push_change g c =
    let failed = err_from_is_err_and c.from_residual.result c.from_residual.ensures.1 in
    rw failed.1 (record { clean = tt; text = tt })

pub returns : goal.returns
returns g c =
    let row = change_row c.args.objects.now c.args.number in
    let all = drop_all c.loop-i.i c.args.changes.now c.loop-i-test.false in
    all_written c.args.rows.now c.loop-i.rows _ (counted row 1 c.args.changes.now) (ap (counted row (c.loop-i.i + 1)) all)
    c.loop-i.invariant
