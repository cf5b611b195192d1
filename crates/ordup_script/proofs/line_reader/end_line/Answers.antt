use Rattle.ordup_script.proofs.Readings.{reads_part, reads_then, takes_part}
use Rattle.ordup_script.proofs.line_reader.end_line.Goals as goal

pub returns-then-is_empty-clause-lines : goal.returns-then-is_empty-clause-lines
returns-then-is_empty-clause-lines g c =
    takes_part c.args.held.now c.args.part.now c.take.result c.requires.part
    (λ held is. c.is_empty.ensures.empty held is c.if-is_empty.true) c.take.ensures.lines

pub returns-clause-lines : goal.returns-clause-lines
returns-clause-lines g c =
    reads_then
    (reads_part c.args.taker.now c.args.held.now c.hold.new.self c.args.part.now (rw c.as_bytes.ensures at c.hold.ensures))
    c.take_held.ensures.lines
