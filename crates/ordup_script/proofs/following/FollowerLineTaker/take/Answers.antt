use Rattle.std.proofs.Common.{refl}
use Rattle.ordup_grammar.specs.Lines.{cut}
use Rattle.ordup_script.proofs.Followers.{takes_line}
use Rattle.ordup_script.proofs.following.FollowerLineTaker.take.Goals as goal

pub returns-clause-lines : goal.returns-clause-lines
returns-clause-lines g c =
    let before = c.args.self.now in
    takes_line before (record { alloc = before.alloc; script = c.answer.new.self }) _ (cut c.args.line.now) c.answer.result refl
    c.answer.ensures.reply
