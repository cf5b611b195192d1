use Rattle.std.proofs.Common.{◌∷◌, ap, arith, sym}
use Rattle.std.proofs.lemmas.Fmt.{decimal_digit}
use Rattle.ordup_lag.proofs.amount_cell.AmountCell.new.Goals as goal

pub invariant_of-result : goal.invariant_of-result
invariant_of-result c = record {
  fits = omega arith;
  text = ap (λ ds. 44 ∷ ds) (sym (decimal_digit 0 (omega arith)));
}
