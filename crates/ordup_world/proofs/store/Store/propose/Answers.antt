use Rattle.std.proofs.Common.{arith}
use Rattle.std.proofs.lemmas.Grind.{common_steps}
use Rattle.ordup_world.proofs.StepLemmas.{unknown-object, proposed, propose_refused}
use Rattle.ordup_world.proofs.store.Store.propose.Goals as goal

pub returns-then-not-are_known : goal.returns-then-not-are_known
returns-then-not-are_known g c = unknown-object c.requires (grind (arith, common_steps))

pub returns-in-Ok : goal.returns-in-Ok
returns-in-Ok g c =
    proposed c.requires (grind (arith, common_steps)) c.in-Ok.ensures.allowed c.in-Ok.ensures.number c.propose.ensures.sound
    c.in-Ok.ensures.added

pub returns-in-Err : goal.returns-in-Err
returns-in-Err g c = propose_refused c.requires (grind (arith, common_steps)) c.in-Err.ensures.refused c.in-Err.ensures.err
