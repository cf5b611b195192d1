-- The text of a cell in the fields of an `AmountCell`.
use Rattle.std.specs.Prelude.{◌≡◌, ◌≤◌, ◌++◌, codes, length, take}
use Rattle.std.specs.Fmt.{decimal}
use Rattle.ordup_lag.specs.declared.amount_cell.AmountCell.TheInside.{Inside}

-- the bytes begin with a comma and the digits of the amount
pub record IsAmountCell (c : Inside) : Type 0 where
  pub fits : c.len ≤ length c.bytes
  pub text : take c.len c.bytes ≡ codes "," ++ decimal c.amount
