-- The event is at the site that the name stands for, so the reply to the event is the reply to the action.
use Rattle.std.proofs.Common.{[], refl}
use Rattle.std.proofs.lemmas.Result.{on_ok_weaker}
use Rattle.ordup_world.specs.declared.event.Event.TheVariants as event
use Rattle.ordup_grammar.specs.SiteLines.{action_at}
use Rattle.ordup_answers.proofs.AnsweringLemmas.{left_by_action}
use Rattle.ordup_answers.proofs.events.answer_at_site.Goals as goal

pub returns-in-Apply-clause-reply : goal.returns-in-Apply-clause-reply
returns-in-Apply-clause-reply g c =
    on_ok_weaker c.answer_event-in-Apply.result (λ left s stands.
    left_by_action c.in-Running.world c.answer_event-in-Apply.new.world (action_at c.args.action c.args.site.now)
    (c.as_bytes-name.result.now, []) (event.Apply c.find_site-site.result)
    (g.O.AnswerTaker.took c.args.out.now c.answer_event-in-Apply.new.out)
    (rw (c.in-Apply.is, c.find_site-site.ensures, c.setup.ensures, c.primary.ensures.primary) refl)
    (rw (c.in-Apply.is, c.as_bytes-name.ensures) refl) left s (rw c.in-Running.is at stands)) c.answer_event-in-Apply.ensures.reply

pub returns-in-Report-clause-reply : goal.returns-in-Report-clause-reply
returns-in-Report-clause-reply g c =
    on_ok_weaker c.answer_event-in-Report.result (λ left s stands.
    left_by_action c.in-Running.world c.answer_event-in-Report.new.world (action_at c.args.action c.args.site.now)
    (c.as_bytes-name.result.now, []) (event.Report c.find_site-site.result)
    (g.O.AnswerTaker.took c.args.out.now c.answer_event-in-Report.new.out)
    (rw (c.in-Report.is, c.find_site-site.ensures, c.setup.ensures, c.primary.ensures.primary) refl)
    (rw (c.in-Report.is, c.as_bytes-name.ensures) refl) left s (rw c.in-Running.is at stands)) c.answer_event-in-Report.ensures.reply
