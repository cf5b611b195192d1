use Rattle.std.proofs.Common.{arith, refl}
use Rattle.std.proofs.lemmas.Grind.{common_steps}
use Rattle.ordup_world.proofs.StepLemmas.{unknown-site, reported_now}
use Rattle.ordup_world.proofs.store.Store.report.Goals as goal

pub returns-then-index-len : goal.returns-then-index-len
returns-then-index-len g c = unknown-site c.requires c.args.site (grind (arith, common_steps)) (λ setup past no. rw no refl)

pub returns : goal.returns
returns g c =
    reported_now c.requires (grind (arith, common_steps)) {site = c.index-3.result.now} (grind (arith, common_steps))
    c.applied-place.ensures.applied c.report.ensures.sound c.report.ensures.noted
