use Rattle.std.proofs.Common.{arith, refl}
use Rattle.std.proofs.lemmas.Grind.{common_steps}
use Rattle.ordup_world.proofs.StepLemmas.{unknown-site, shown, show_refused}
use Rattle.ordup_world.proofs.store.Store.show.Goals as goal

pub returns-then-index-len : goal.returns-then-index-len
returns-then-index-len g c = unknown-site c.requires c.args.site (grind (arith, common_steps)) (λ setup past no. rw no refl)

pub returns-in-Ok : goal.returns-in-Ok
returns-in-Ok g c =
    shown c.requires (grind (arith, common_steps)) {site = c.index-replica.result.now} (grind (arith, common_steps)) c.sent.ensures
    c.applied.ensures.applied c.reported.ensures (grind (arith, common_steps)) (grind (arith, common_steps))

pub returns-in-Err : goal.returns-in-Err
returns-in-Err g c = show_refused c.requires (grind (arith, common_steps)) c.in-Err.ensures.refused
