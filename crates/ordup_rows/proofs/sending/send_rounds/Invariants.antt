use Rattle.std.proofs.Common.{◌+◌, drop}
use Rattle.ordup_rows.specs.Rows.{counted, round_row}
use Rattle.ordup_rows.proofs.SentLemmas.{IsUnderWay}
use Rattle.ordup_rows.proofs.sending.send_rounds.Given as goal

abbrev pub invariant-loop-i : goal.invariant-loop-i
invariant-loop-i g l =
    IsUnderWay (g.W.Write.contents l.fn.output) (g.W.Write.contents l.output) l.initial.rows l.rows
    (counted round_row (l.i + 1) (drop l.i l.places)) (counted round_row 1 l.places)
