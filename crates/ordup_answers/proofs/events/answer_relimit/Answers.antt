use Rattle.std.proofs.Common.{◌≡◌, refl, [], rules, Some}
use Rattle.std.proofs.lemmas.Result.{on_ok_weaker}
use Rattle.ordup_world.specs.declared.event.Event.TheVariants as event
use Rattle.ordup_grammar.specs.Actions.{Relimit}
use Rattle.ordup_grammar.specs.Commands.{Act, command_by}
use Rattle.ordup_grammar.specs.declared.keyword.Keyword.TheVariants as keyword
use Rattle.ordup_answers.proofs.AnsweringLemmas.{left_by_words}
use Rattle.ordup_answers.proofs.events.answer_relimit.Goals as goal

pub returns-clause-reply : goal.returns-clause-reply
returns-clause-reply g c =
    let action = Relimit c.in-Some.site c.in-Some.scope c.in-Some.amount in
    let spelled : command_by keyword.Relimit c.args.rest.now ≡ Some (Act action) = search rules in
    on_ok_weaker c.answer_event.result (λ left s stands.
    left_by_words c.in-Running.world c.answer_event.new.world (command_by keyword.Relimit c.args.rest.now) action
    (c.as_bytes.result.now, []) (event.Relimit c.find_site.result c.find_scope.result c.amount.result)
    (g.O.AnswerTaker.took c.args.out.now c.answer_event.new.out) spelled
    (rw (c.find_site.ensures, c.find_scope.ensures, c.amount.ensures, c.setup-setup.ensures, c.primary.ensures.primary) refl)
    (rw c.as_bytes.ensures refl) left s (rw c.in-Running.is at stands)) c.answer_event.ensures.reply
