use Rattle.std.proofs.Common.{◌≡◌, ◌++◌, [], List, ℕ, length}
use Rattle.ordup_grammar.specs.Lines.{Line}
use Rattle.ordup_answers.specs.Scripts.{IsCut}
use Rattle.ordup_c.specs.Sessions.{Follows}
use Rattle.ordup_c.proofs.session.Session.answer_lines.Given as goal

-- the lines so far were answered
abbrev pub invariant-loop-part : goal.invariant-loop-part
invariant-loop-part l =
    (l.self.given ≡ l.fn.self.given)
    × (done : List ℕ)
    × (lines : List Line)
    × (l.text ≡ done ++ l.rest)
    × IsCut done lines []
    × Follows l.fn.self l.self lines

abbrev pub decreases-loop-part : goal.decreases-loop-part
decreases-loop-part l = length l.rest
