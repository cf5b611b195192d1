use Rattle.std.proofs.lemmas.Result.{IfErr-weaker}
use Rattle.std.proofs.Common.{◌∙◌, refl}
use Rattle.std.proofs.lemmas.List.{append-nil}
use Rattle.ordup_c.proofs.Sessions.{follows_line, on_ok_map}
use Rattle.ordup_c.proofs.session.Session.answer_line.Goals as goal

pub returns-clause-line : goal.returns-clause-line
returns-clause-line c =
    on_ok_map c.answer.result
    (follows_line c.args.self.now (record { script = c.answer.new.self; answers = c.answer.new.out; given = c.args.self.now.given })
    c.args.line.now _ refl) c.answer.ensures.reply

pub returns-clause-kept : goal.returns-clause-kept
returns-clause-kept c =
    IfErr-weaker c.answer.result _ _ (λ e h. (h.0, h.1 ∙ append-nil c.args.self.now.answers.text)) c.answer.ensures.kept
