use Rattle.std.proofs.Common.{◌+◌, drop}
use Rattle.ordup_rows.specs.Rows.{change_rows}
use Rattle.ordup_rows.proofs.SentLemmas.{IsUnderWay}
use Rattle.ordup_rows.proofs.sending.send_sets.Given as goal

abbrev pub invariant-loop-index : goal.invariant-loop-index
invariant-loop-index g l =
    IsUnderWay (g.W.Write.contents l.fn.output) (g.W.Write.contents l.output) l.initial.rows l.rows
    (change_rows l.audited.objects (l.index + 1) (drop l.index l.audited.sets)) (change_rows l.audited.objects 1 l.audited.sets)
