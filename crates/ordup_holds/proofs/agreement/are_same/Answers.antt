use Rattle.std.proofs.lemmas.Bool.Decides.{Decides-int_eq}
use Rattle.std.proofs.lemmas.Slice.Eq.{slice_eq-Decides}
use Rattle.ordup_holds.proofs.agreement.are_same.Goals as goal

pub returns : goal.returns
returns c = rw (← c.as_slice.ensures, ← c.as_slice-2.ensures) (slice_eq-Decides Decides-int_eq _ _ _ c.eq.ensures)
