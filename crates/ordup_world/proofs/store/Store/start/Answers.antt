-- A new primary and sites with the initial values are a store after an empty past.
use Rattle.std.proofs.Common.{rules}
use Rattle.std.proofs.lemmas.Result.{err_from_is_err_and}
use Rattle.ordup_world.proofs.StoreLemmas.{IsStore-start}
use Rattle.ordup_world.proofs.AfterLemmas.{IsStoreAfter-start}
use Rattle.ordup_world.proofs.store.Store.start.Goals as goal

pub returns-in_err-primary : goal.returns-in_err-primary
returns-in_err-primary g c =
    let failed = err_from_is_err_and c.from_residual.result c.from_residual.ensures.1 in
    rw (failed.1, failed.2) (record { state = tt; sound = tt; refused = c.in_err-primary.ensures.refused })

pub returns-2-clause-state : goal.returns-2-clause-state
returns-2-clause-state g c =
    let made = c.in_ok-primary.ensures in
    let log = rw (← made.setup) at made.log in
    let known = rw (← made.setup) at made.sites in
    let limits = rw (← made.setup) at made.limits in
    rw (← made.setup) (IsStoreAfter-start _ (IsStore-start _ made.sound log known (search rules)) log made.numbers.0 made.numbers.1 known
    limits (search rules))

pub returns-2-clause-sound : goal.returns-2-clause-sound
returns-2-clause-sound g c =
    let made = c.in_ok-primary.ensures in
    IsStore-start _ made.sound (rw (← made.setup) at made.log) (rw (← made.setup) at made.sites) (search rules)
