use Rattle.std.proofs.Common.{refl}
use Rattle.std.proofs.lemmas.Result.{on_ok_weaker}
use Rattle.ordup_world.specs.declared.event.Event.TheVariants as event
use Rattle.ordup_answers.proofs.KnownLemmas.{left_by_known}
use Rattle.ordup_answers.proofs.known_answers.answer_known.Goals as goal

pub returns-in-Apply-clause-reply : goal.returns-in-Apply-clause-reply
returns-in-Apply-clause-reply g c =
    on_ok_weaker c.answer_at-in-Apply.result (λ left s (stands, tells).
    left_by_known c.in-Running.world c.answer_at-in-Apply.new.world c.args.line.now (event.Apply c.args.line.now.site)
    (g.O.AnswerTaker.took c.args.out.now c.answer_at-in-Apply.new.out) (λ d told. rw (c.in-Apply.is, told.site) refl)
    (rw c.in-Apply.is refl) left s (rw c.in-Running.is at stands) tells) c.answer_at-in-Apply.ensures.reply

pub returns-in-Report-clause-reply : goal.returns-in-Report-clause-reply
returns-in-Report-clause-reply g c =
    on_ok_weaker c.answer_at-in-Report.result (λ left s (stands, tells).
    left_by_known c.in-Running.world c.answer_at-in-Report.new.world c.args.line.now (event.Report c.args.line.now.site)
    (g.O.AnswerTaker.took c.args.out.now c.answer_at-in-Report.new.out) (λ d told. rw (c.in-Report.is, told.site) refl)
    (rw c.in-Report.is refl) left s (rw c.in-Running.is at stands) tells) c.answer_at-in-Report.ensures.reply
