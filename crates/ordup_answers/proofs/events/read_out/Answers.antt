-- A read is an event of the world, so its answer is the reply to that event.
-- Only a read that was refused memory is not answered, and it has left the world as it was.
use Rattle.std.proofs.Common.{◌∙◌, ap, refl}
use Rattle.std.proofs.lemmas.Result.{on_ok_weaker}
use Rattle.ordup_primary.specs.Primaries.{PrimaryState}
use Rattle.ordup_world.specs.declared.event.Event.TheVariants as event
use Rattle.ordup_answers.proofs.AnsweringLemmas.{if_err_weaker, left_by_event}
use Rattle.ordup_answers.proofs.events.read_out.Goals as goal

pub returns-clause-reply : goal.returns-clause-reply
returns-clause-reply g c =
    let read = c.read-answer.ensures in
    on_ok_weaker c.stepped.result (λ h d past is.
    let after = read.state d past is in
    left_by_event d c.read-answer.new.self past (event.Read c.args.query.now c.args.id) c.read-answer.result
    (read.answer d past is) after h.0
    c.setup.result.now c.args.query.now c.args.object.now (g.O.AnswerTaker.took c.args.out.now c.stepped.new.self)
    (c.setup.ensures ∙ ap (λ (p : PrimaryState). p.setup) c.primary.ensures.primary ∙ after.store.declared)
    (c.reserve.ensures.same _ _ h.1)) c.stepped.ensures.text

pub returns-clause-kept : goal.returns-clause-kept
returns-clause-kept g c =
    if_err_weaker c.stepped.result (λ e h.
    (c.read-answer.ensures.refused (rw h.0 refl), c.reserve.ensures.same _ _ h.1)) c.stepped.ensures.kept
