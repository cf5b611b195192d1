-- All that was read is within the limit, and its lines were taken but for the one that is held.
-- A piece that goes past the limit is cut there. A line at which the taker stops is in the script however it goes on.
use Rattle.std.proofs.Common.{arith, ◌≡◌, ◌∙◌, ◌++◌, ◌-◌, ◌<◌, ℕ}
use Rattle.std.proofs.Common.{List, ap, length, length-append, sym, take, take-take}
use Rattle.std.proofs.lemmas.Result.{err_from_is_err_and}
use Rattle.std.proofs.KnownBytes.{Consumes-trans, Consumes-kept}
use Rattle.std.proofs.lemmas.List.{take_all}
use Rattle.ordup_script.proofs.Readings.{reads_to_limit, stops_in, takes_ended}
use Rattle.ordup_script.proofs.line_reader.read_lines.Goals as goal

pub returns-in_default-clause-lines : goal.returns-in_default-clause-lines
returns-in_default-clause-lines g c =
    let (within, len, lines_left, clear, script, count, took, read) = c.pieces.invariant in
    (script, Consumes-kept _ _ _ script took c.in_default.ensures.bytes, omega arith, takes_ended _ read)

-- what lies within the limit of what was read
within_limit : (buf script : List ℕ) (taken limit count : ℕ) → length script ≡ taken → limit - taken < count
    → take (limit - taken) buf ≡ take (limit - length script) (take count buf)
within_limit buf script taken limit count is over =
    ap (λ n. take (limit - n) buf) (sym is) ∙ sym (take-take (limit - length script) count buf (omega arith))

pub returns-in_err-read_piece-clause-lines : goal.returns-in_err-read_piece-clause-lines
returns-in_err-read_piece-clause-lines g c =
    let (within, len, lines_left, clear, script, count, took, read) = c.pieces.invariant in
    let failed = err_from_is_err_and c.from_residual-in_err-read_piece.result c.from_residual-in_err-read_piece.ensures.1 in
    let buf = c.read.new.buf in
    let front = within_limit buf script c.pieces.taken c.args.limit c.in-Ok.count count (omega arith) in
    rw (failed.1, failed.2) (stops_in _ _ _ c.args.limit (take c.in-Ok.count buf) took c.in-Ok.ensures.bytes.0 (omega arith)
    front read c.in_err-read_piece.ensures.lines)

pub returns-then-count-limit-clause-lines : goal.returns-then-count-limit-clause-lines
returns-then-count-limit-clause-lines g c =
    let (within, len, lines_left, clear, script, count, took, read) = c.pieces.invariant in
    let buf = c.read.new.buf in
    let front = within_limit buf script c.pieces.taken c.args.limit c.in-Ok.count count (omega arith) in
    reads_to_limit _ _ _ c.args.limit (take c.in-Ok.count buf) took c.in-Ok.ensures.bytes.0 (omega arith)
    (omega (arith, c.in-Ok.ensures.bound.1)) front read c.in_ok-read_piece.ensures.lines

pub returns-in_err-read_piece-2-clause-lines : goal.returns-in_err-read_piece-2-clause-lines
returns-in_err-read_piece-2-clause-lines g c =
    let (within, len, lines_left, clear, script, count, took, read) = c.pieces.invariant in
    let failed = err_from_is_err_and c.from_residual-in_err-read_piece-2.result c.from_residual-in_err-read_piece-2.ensures.1 in
    let piece : List ℕ = take c.in-Ok.count c.read.new.buf in
    let all : piece ≡ take (c.args.limit - length script) piece = sym (take_all _ piece (omega (arith, c.in-Ok.ensures.bound.1))) in
    rw (failed.1, failed.2)
    (stops_in _ _ _ c.args.limit piece took c.in-Ok.ensures.bytes.0 (omega arith) all read c.in_err-read_piece-2.ensures.lines)

pub pieces-preserved : goal.pieces-preserved
pieces-preserved g c =
    let (within, len, lines_left, clear, script, count, took, read) = c.pieces.invariant in
    let piece : List ℕ = take c.in-Ok.count c.read.new.buf in (
      omega arith,
      omega (arith, c.read.auto.buf),
      omega (arith, lines_left, c.in_ok-read_piece-2.ensures.lines_left, c.in-Ok.ensures.bound.1),
      c.in_ok-read_piece-2.ensures.clear,
      script ++ piece,
      rw length-append (omega (arith, c.in-Ok.ensures.bound.1)),
      Consumes-trans _ _ _ script piece took c.in-Ok.ensures.bytes.0,
      c.in_ok-read_piece-2.ensures.lines.goes_on c.args.taker.now script read,
    )
