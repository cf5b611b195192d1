-- The change that is found is one of the set, so its number is in range. What it makes of the object, the set makes of it.
use Rattle.std.proofs.Common.{◌∙◌, rules, w64, Some, None}
use Rattle.std.specs.Prelude.{◌==◌, IfSome, length}
use Rattle.std.proofs.lemmas.Int.{to_z-of_z}
use Rattle.ordup_objects.specs.Ops.{number_of}
use Rattle.ordup_objects.specs.States.{IsInRange}
use Rattle.ordup_objects.specs.Sets.{IsKnown}
use Rattle.ordup_conditions.proofs.ConditionLemmas.{value_at-found, IfSome-find}
use Rattle.ordup_conditions.proofs.unmet.value_after.Goals as goal

pub result-requires-clause-known : goal.result-requires-clause-known
result-requires-clause-known g c =
    let found = rw c.changes.ensures.changes at c.in-Some.ensures in
    IfSome-find (IsKnown (length c.args.values.now)) (λ d. d.object == c.args.object) c.args.set.now
    (Some c.in-Some.change.now) c.requires.known found

pub result-requires-clause-number : goal.result-requires-clause-number
result-requires-clause-number g c =
    let found = rw c.changes.ensures.changes at c.in-Some.ensures in
    IfSome-find (λ d. IfSome (number_of d.op) IsInRange) (λ d. d.object == c.args.object) c.args.set.now
    (Some c.in-Some.change.now) c.changes.ensures.set.numbers found

pub returns-in-Some : goal.returns-in-Some
returns-in-Some g c =
    let found = rw c.changes.ensures.changes at c.in-Some.ensures in
    to_z-of_z w64 c.result.result (search rules) ∙ c.result.ensures
    ∙ value_at-found c.args.values.now c.args.set.now c.args.object (Some c.in-Some.change.now)
    c.changes.ensures.set.distinct c.requires.known found

pub returns-in-None : goal.returns-in-None
returns-in-None g c =
    let found = rw c.changes.ensures.changes at c.in-None.ensures in
    to_z-of_z w64 c.get.result (search rules) ∙ c.get.ensures.value
    ∙ value_at-found c.args.values.now c.args.set.now c.args.object None
    c.changes.ensures.set.distinct c.requires.known found
