use Rattle.std.proofs.Common.{◌≡◌, ◌+◌, ◌≤◌, Ok, List, ℕ, ◌++◌, length}
use Rattle.ordup_script.specs.Readings.{ReadsOn}
use Rattle.ordup_script.proofs.line_reader.read_piece.Given as goal

abbrev pub invariant-loop-part : goal.invariant-loop-part
invariant-loop-part g l =
    (g.T.LineTaker.lines_left l.fn.taker + length l.rest ≤ g.T.LineTaker.lines_left l.taker + length l.piece)
    × (done : List ℕ)
    × (l.piece ≡ done ++ l.rest)
    × ReadsOn g.T.LineTaker.took g.T.LineTaker.stopped l.fn.taker l.fn.held l.taker l.held done (Ok tt)

abbrev pub decreases-loop-part : goal.decreases-loop-part
decreases-loop-part g l = length l.rest
