use Rattle.std.proofs.Common.{arith}
use Rattle.tests_of_scripts.proofs.events.worked_rows.change_at_each_place.Goals as goal

pub loop-place-init : goal.loop-place-init
loop-place-init g c = λ k d lt. omega (arith, c.requires k d lt)

pub refusal_of_change-requires-clause-last : goal.refusal_of_change-requires-clause-last
refusal_of_change-requires-clause-last g c = λ k d lt. omega (arith, c.loop-place.invariant k d lt)

pub loop-place-preserved : goal.loop-place-preserved
loop-place-preserved g c = λ k d lt. omega (arith, c.refusal_of_change.ensures.last k d lt)

pub returns : goal.returns
returns g c = λ k d lt. omega (arith, c.loop-place.invariant k d lt, c.loop-place.auto.place-counter-end)
