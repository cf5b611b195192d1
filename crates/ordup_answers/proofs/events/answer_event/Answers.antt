-- Spare capacity for the answer is there before the step. So taking it fails only where the event was refused memory, and
-- then the world did not change. Any other answer is the reply.
use Rattle.std.proofs.Common.{◌∙◌, ap, refl}
use Rattle.std.proofs.lemmas.Result.{on_ok_weaker}
use Rattle.ordup_primary.specs.Primaries.{PrimaryState}
use Rattle.ordup_answers.proofs.AnsweringLemmas.{if_err_weaker, left_by_event}
use Rattle.ordup_answers.proofs.events.answer_event.Goals as goal

pub returns-2-clause-reply : goal.returns-2-clause-reply
returns-2-clause-reply g c =
    let stepped = c.step-answer.ensures in
    on_ok_weaker c.stepped.result (λ h d past is.
    let after = stepped.state d past is in
    left_by_event d c.step-answer.new.self past c.args.event c.step-answer.result
    (stepped.answer d past is) after h.0
    c.setup.result.now c.args.subject.now c.args.object.now (g.O.AnswerTaker.took c.args.out.now c.stepped.new.self)
    (c.setup.ensures ∙ ap (λ (p : PrimaryState). p.setup) c.primary.ensures.primary ∙ after.store.declared)
    (c.reserve.ensures.same _ _ h.1)) c.stepped.ensures.text

pub returns-2-clause-kept : goal.returns-2-clause-kept
returns-2-clause-kept g c =
    if_err_weaker c.stepped.result (λ e h.
    (c.step-answer.ensures.refused (rw h.0 refl), c.reserve.ensures.same _ _ h.1)) c.stepped.ensures.kept
