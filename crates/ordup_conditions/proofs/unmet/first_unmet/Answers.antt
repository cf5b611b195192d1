-- The conditions before the index are met.
-- So the first one that is not met is the answer, and where the loop comes to its end all are met.
use Rattle.std.proofs.Common.{sym, refl}
use Rattle.std.proofs.lemmas.List.{take_all}
use Rattle.ordup_objects.specs.States.{after}
use Rattle.ordup_conditions.proofs.ConditionLemmas.{first_unmet-none, first_unmet-at, IsFirstUnmet-at, AreMet-more}
use Rattle.ordup_conditions.proofs.unmet.first_unmet.Goals as goal

pub returns-then-not-is_met-clause-first : goal.returns-then-not-is_met-clause-first
returns-then-not-is_met-clause-first g c =
    first_unmet-at (after c.args.set.now c.args.values.now) c.args.conditions.now c.loop-index.index c.index-conditions-index.result
    c.loop-index-test.true c.index-conditions-index.is c.loop-index.invariant (sym c.if-not-is_met.ensures)

pub returns-then-not-is_met-clause-unmet : goal.returns-then-not-is_met-clause-unmet
returns-then-not-is_met-clause-unmet g c =
    IsFirstUnmet-at (after c.args.set.now c.args.values.now) c.args.conditions.now c.loop-index.index c.index-conditions-index.result
    c.loop-index-test.true c.index-conditions-index.is c.loop-index.invariant (sym c.if-not-is_met.ensures)

pub loop-index-preserved : goal.loop-index-preserved
loop-index-preserved g c =
    AreMet-more (after c.args.set.now c.args.values.now) c.args.conditions.now c.loop-index.index c.index-conditions-index.result
    c.loop-index-test.true c.index-conditions-index.is c.loop-index.invariant (sym c.if-not-is_met.ensures)

pub returns-clause-first : goal.returns-clause-first
returns-clause-first g c =
    first_unmet-none (after c.args.set.now c.args.values.now) c.args.conditions.now
    (rw (take_all c.loop-index.index c.args.conditions.now c.loop-index-test.false) at c.loop-index.invariant)

pub returns-clause-met : goal.returns-clause-met
returns-clause-met g c =
    (λ _. rw (take_all c.loop-index.index c.args.conditions.now c.loop-index-test.false) at c.loop-index.invariant, λ _. refl)
