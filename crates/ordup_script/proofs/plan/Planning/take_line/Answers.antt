use Rattle.std.proofs.Common.{subst}
use Rattle.ordup_grammar.specs.Commands.{command_of}
use Rattle.ordup_script.specs.Plans.{PlanState}
use Rattle.ordup_script.specs.Plannings.{LeadsTo}
use Rattle.ordup_script.proofs.Plannings.{asked_words}
use Rattle.ordup_script.proofs.plan.Planning.take_line.Goals as goal

pub returns-in-Words-clause-plan : goal.returns-in-Words-clause-plan
returns-in-Words-clause-plan g c =
    let before = c.args.self.now in
    rw c.in-Words.is
    (subst (λ (s : PlanState). LeadsTo c.follow.new.self s c.follow.result)
    (asked_words before.plan.setup before.is_started before.plan.sets.items before.lines
    (command_of c.in-Words.first c.in-Words.rest)) c.follow.ensures.plan)
