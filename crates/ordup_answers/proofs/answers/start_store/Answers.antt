use Rattle.ordup_answers.proofs.AnsweringLemmas.{left_by_start}
use Rattle.ordup_answers.proofs.answers.start_store.Goals as goal

pub returns-in-Ok-clause-reply : goal.returns-in-Ok-clause-reply
returns-in-Ok-clause-reply g c s stands =
    rw c.run.ensures
    (left_by_start c.in-Declared.setup c.in-Ok.world (g.O.AnswerTaker.took c.args.out.now c.started.new.self) c.in-Ok.ensures.started
    (c.in_ok-reserve.ensures.same _ _ c.started.ensures) s (rw c.in-Declared.is at stands))
