use Rattle.std.proofs.Common.{[], ◌∙◌, ap, subst}
use Rattle.std.proofs.lemmas.Result.{on_ok_weaker}
use Rattle.ordup_primary.specs.Primaries.{PrimaryState}
use Rattle.ordup_answers.specs.KnownLines.{name_of}
use Rattle.ordup_answers.specs.Texts.{answer_text}
use Rattle.ordup_answers.proofs.AnsweringLemmas.{left_by_event}
use Rattle.ordup_answers.proofs.known_answers.answer_at.Goals as goal

pub returns-2-clause-reply : goal.returns-2-clause-reply
returns-2-clause-reply g c =
    let stepped = c.step-answer.ensures in
    on_ok_weaker c.stepped.result (λ h d past is.
    let after = stepped.state d past is in
    left_by_event d c.step-answer.new.self past c.args.event c.step-answer.result
    (stepped.answer d past is) after h.0
    c.setup.result.now (name_of c.args.line.now) [] (g.O.AnswerTaker.took c.args.out.now c.stepped.new.self)
    (c.setup.ensures ∙ ap (λ (p : PrimaryState). p.setup) c.primary.ensures.primary ∙ after.store.declared)
    (subst (λ name. g.O.AnswerTaker.took c.args.out.now c.stepped.new.self (answer_text c.setup.result.now name [] c.step-answer.result))
    c.name-name.ensures.name (c.reserve.ensures.same _ _ h.1))) c.stepped.ensures.text
