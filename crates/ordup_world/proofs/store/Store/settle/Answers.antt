use Rattle.ordup_world.proofs.StepLemmas.{settled_now, settle_refused}
use Rattle.ordup_world.proofs.store.Store.settle.Goals as goal

pub returns-in-Ok : goal.returns-in-Ok
returns-in-Ok g c =
    settled_now c.requires c.in-Ok.ensures.allowed c.in-Ok.ensures.answer c.settle.ensures.sound c.in-Ok.ensures.first
    c.in-Ok.ensures.later

pub returns-in-Err : goal.returns-in-Err
returns-in-Err g c = settle_refused c.requires c.in-Err.ensures.refused c.in-Err.ensures.err
