-- The state after the update is that of the set after the last one.
use Rattle.std.proofs.Common.{sym, refl}
use Rattle.ordup_objects.proofs.SerialLemmas.{serial-last}
use Rattle.ordup_holds.proofs.numbering.number_if_and_turn.Goals as goal

pub returns-in-Some-clause-refused : goal.returns-in-Some-clause-refused
returns-in-Some-clause-refused g c =
    rw (← c.primary.ensures.primary, ← c.log.ensures) (sym c.in-Some.ensures.first)

pub returns-in-Ok-clause-met : goal.returns-in-Ok-clause-met
returns-in-Ok-clause-met g c =
    let met = rw (c.log.ensures, c.primary.ensures.primary) at c.in-None.ensures.met in
    rw (c.in-Ok.ensures.log, c.in-Ok.ensures.number, serial-last _ _) (met.0 refl)

pub returns-in-Err-clause-refused : goal.returns-in-Err-clause-refused
returns-in-Err-clause-refused g c =
    (rw (← c.primary.ensures.primary, ← c.log.ensures) (sym c.in-None.ensures.first), c.in-Err.ensures.refused)
