use Rattle.std.proofs.Common.{ℕ, sym, subst}
use Rattle.ordup_objects.specs.Sets.{AreKnown}
use Rattle.ordup_holds.proofs.CellLemmas.{values-count, taken-more}
use Rattle.ordup_holds.proofs.site_cell.take.Goals as goal

pub apply-requires-clause-known : goal.apply-requires-clause-known
apply-requires-clause-known g c =
    subst (λ (n : ℕ). AreKnown n c.in_ok-parcel.parcel.set) (sym (values-count _ _ _ c.cell.invariant))
    c.in_ok-parcel.ensures.next.known

pub invariant_of-cell-2 : goal.invariant_of-cell-2
invariant_of-cell-2 g c =
    rw (c.tell.ensures.told, c.in_ok-parcel.ensures.taken) (taken-more _ _ _ _ _ c.cell.invariant c.apply.ensures.last)

pub returns-clause-held : goal.returns-clause-held
returns-clause-held g c =
    rw (c.tell.ensures.told, c.in_ok-parcel.ensures.taken) (taken-more _ _ _ _ _ c.cell.invariant c.apply.ensures.last)
