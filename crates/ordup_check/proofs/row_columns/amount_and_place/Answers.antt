use Rattle.std.proofs.Common.{rules}
use Rattle.ordup_check.proofs.ColumnLemmas.{amount_and_place-at, no_amount, no_place_behind, without_at}
use Rattle.ordup_check.proofs.row_columns.amount_and_place.Goals as goal

pub returns-in_err-end : goal.returns-in_err-end
returns-in_err-end c = search (rules, without_at)

pub returns-in_err-amount : goal.returns-in_err-amount
returns-in_err-amount c = search (rules, no_amount)

pub returns-in_err-place : goal.returns-in_err-place
returns-in_err-place c = search (rules, no_place_behind)

pub returns : goal.returns
returns c =
    amount_and_place-at c.args.column.now c.in_ok-end.end c.in_ok-amount.amount c.in_ok-place.place (search rules) (search rules)
    (search rules)
