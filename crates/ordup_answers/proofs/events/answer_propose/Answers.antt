use Rattle.std.proofs.lemmas.Result.{on_ok_weaker}
use Rattle.ordup_answers.proofs.AnsweringLemmas.{left_by_no_set}
use Rattle.ordup_answers.proofs.events.answer_propose.Goals as goal

pub returns-in-Err-clause-reply : goal.returns-in-Err-clause-reply
returns-in-Err-clause-reply g c =
    on_ok_weaker c.refused-in-Err.result (λ h s stands.
    left_by_no_set c.in-Running.world c.args.rest.now c.set_in.result c.in-Err.refusal
    (g.O.AnswerTaker.took c.args.out.now c.refused-in-Err.new.self) c.in-Err.is c.set_in.ensures.syntax
    (rw (c.objects.ensures, c.setup.ensures, c.primary.ensures.primary) at c.set_in.ensures.set) h.0 h.1 s
    (rw c.in-Running.is at stands)) c.refused-in-Err.ensures.text
