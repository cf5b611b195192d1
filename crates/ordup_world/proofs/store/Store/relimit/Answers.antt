use Rattle.std.proofs.Common.{arith}
use Rattle.std.proofs.lemmas.Grind.{common_steps}
use Rattle.ordup_world.proofs.StepLemmas.{relimited_now, relimit_refused}
use Rattle.ordup_world.proofs.store.Store.relimit.Goals as goal

pub returns-in-Ok : goal.returns-in-Ok
returns-in-Ok g c =
    relimited_now c.requires (grind (arith, common_steps)) (grind (arith, common_steps)) c.in-Ok.ensures.allowed c.in-Ok.ensures.place
    c.relimit.ensures.sound c.in-Ok.ensures.changed

pub returns-in-Err-relimit : goal.returns-in-Err-relimit
returns-in-Err-relimit g c =
    relimit_refused c.requires (grind (arith, common_steps)) (grind (arith, common_steps)) c.in-Err-relimit.ensures.refused
    c.in-Err-relimit.ensures.err
