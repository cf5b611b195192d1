use Rattle.std.proofs.Common.{arith, ◌≡◌}
use Rattle.std.proofs.lemmas.Grind.{common_steps}
use Rattle.std.proofs.lemmas.List.Elements.{All-same}
use Rattle.ordup_objects.specs.States.{IsInRange, after}
use Rattle.ordup_objects.proofs.SetLemmas.{IsState-after}
use Rattle.ordup_objects.proofs.values.put_results.Goals as goal

pub returns-clause-state : goal.returns-clause-state
returns-clause-state c =
    let e : c.loop-i.values ≡ after c.args.changes.now c.args.values.now = grind (arith, common_steps) in
    All-same IsInRange _ (after c.args.changes.now c.args.values.now) e
    (IsState-after c.args.values.now c.args.changes.now c.requires.state c.requires.legal)

pub loop-i-preserved : goal.loop-i-preserved
loop-i-preserved c = grind (arith, common_steps)

pub returns-clause-after : goal.returns-clause-after
returns-clause-after c = grind (arith, common_steps)
