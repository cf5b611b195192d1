use Rattle.std.proofs.Common.{refl, arith}
use Rattle.ordup_holds.proofs.CellLemmas.{values-count}
use Rattle.ordup_holds.proofs.site_cell.view.Goals as goal

pub returns-then-index-len-clause-refused : goal.returns-then-index-len-clause-refused
returns-then-index-len-clause-refused g c =
    (refl, rw (← c.cell.view_is) (omega (arith, values-count _ _ _ c.cell.invariant, c.len.ensures, c.index.ensures, c.if-index-len.true)))

pub returns-clause-allowed : goal.returns-clause-allowed
returns-clause-allowed g c =
    rw (← c.cell.view_is) (omega (arith, values-count _ _ _ c.cell.invariant, c.len.ensures, c.index.ensures, c.if-index-len.false))
