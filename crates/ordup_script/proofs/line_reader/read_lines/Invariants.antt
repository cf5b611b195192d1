use Rattle.std.proofs.Common.{◌≡◌, ℕ, ◌+◌, ◌-◌, ◌≤◌, List, length}
use Rattle.std.specs.Io.KnownBytes.{Consumes}
use Rattle.ordup_script.specs.Readings.{IsRead}
use Rattle.ordup_script.specs.declared.sizes.TheConstants.{PIECE}
use Rattle.ordup_script.proofs.line_reader.read_lines.Given as goal

abbrev pub invariant-pieces : goal.invariant-pieces
invariant-pieces g l =
    (l.taken ≤ l.limit)
    × (length l.piece ≡ PIECE)
    × (g.T.LineTaker.lines_left l.fn.taker ≤ g.T.LineTaker.lines_left l.taker + l.taken)
    × g.T.LineTaker.is_clear l.taker
    × (script : List ℕ)
    × (length script ≡ l.taken)
    × Consumes (g.R.Read.remaining l.fn.input) (g.R.Read.remaining l.input) script
    × IsRead (g.T.LineTaker.took l.fn.taker l.taker) l.held script

abbrev pub decreases-pieces : goal.decreases-pieces
decreases-pieces g l = l.limit + 1 - l.taken
