-- The counter of an object's row is one more than its index. So each row is the first of those that are left, until none is.
use Rattle.std.proofs.Common.{◌+◌, ap, arith, pos, refl, []}
use Rattle.std.proofs.lemmas.List.{drop_all}
use Rattle.std.proofs.lemmas.Result.{err_from_is_err_and}
use Rattle.ordup_rows.specs.Rows.{counted, object_row}
use Rattle.ordup_rows.proofs.FormLemmas.{all_written, counted-more, more_written}
use Rattle.ordup_rows.proofs.forming.push_objects.Goals as goal

pub loop-index-init : goal.loop-index-init
loop-index-init g c = (c.requires, refl)

pub push_object-requires : goal.push_object-requires
push_object-requires g c = record {
  clean = c.loop-index.invariant.0;
  known = rw c.new.ensures (omega (arith, c.len-index-end.ensures.len));
}

pub returns-in_err-push_object : goal.returns-in_err-push_object
returns-in_err-push_object g c =
    let failed = err_from_is_err_and c.from_residual.result c.from_residual.ensures.1 in
    rw failed.1 (record { clean = tt; text = tt })

pub loop-index-preserved : goal.loop-index-preserved
loop-index-preserved g c =
    let index = c.loop-index.index in
    more_written c.loop-index.rows c.push_object.new.rows _ _ _ _ c.loop-index.invariant
    c.in_ok-push_object.ensures.clean (rw c.new.ensures at (c.in_ok-push_object.ensures.text ([], pos 0)))
    (counted-more object_row (index + 1) index c.args.objects.now ([], pos 0) (omega arith))

pub returns : goal.returns
returns g c =
    let all = drop_all c.loop-index.index c.args.objects.now (omega (arith, c.len-index-end.ensures.len)) in
    all_written c.args.rows.now c.loop-index.rows _ (counted object_row 1 c.args.objects.now)
    (ap (counted object_row (c.loop-index.index + 1)) all) c.loop-index.invariant
