-- In some state in which the script stands, all that is kept of lines is true, and each line leaves such a state.
-- It is then true in every state in which the script stands, so the reply is right from any of these.
use Rattle.ordup_grammar.specs.Lines.{cut}
use Rattle.ordup_grammar.specs.Requests.{request_of}
use Rattle.ordup_answers.specs.Replies.{request_reply}
use Rattle.ordup_answers.proofs.KnownLemmas.{replies_alike, stays_answering}
use Rattle.ordup_answers.proofs.answering.Answering.answer.Goals as goal

pub invariant_of-self : goal.invariant_of-self
invariant_of-self g c =
    let before = c.self.inside in
    let after = c.answer_line.new in
    stays_answering before.end after.store before.known after.known (g.O.AnswerTaker.took c.args.out.now after.out)
    (λ s. request_reply s (request_of (cut c.args.line.now))) c.answer_line.result c.self.invariant c.answer_line.ensures.reply
    c.answer_line.ensures.kept c.answer_line.ensures.known

pub returns-clause-reply : goal.returns-clause-reply
returns-clause-reply g c =
    let before = c.self.inside in
    let after = c.answer_line.new in
    rw (← c.self.view_is) (replies_alike before.end after.store before.known after.known
    (g.O.AnswerTaker.took c.args.out.now after.out) (λ s. request_reply s (request_of (cut c.args.line.now))) c.answer_line.result
    c.self.invariant c.answer_line.ensures.reply)
