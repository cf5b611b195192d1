-- The lines that end in the piece were read one after another, and what is behind the last of them is held.
use Rattle.std.proofs.Common.{◌≡◌, ◌∙◌, ◌++◌, ◌∷◌, [], ℕ, List, Err}
use Rattle.std.proofs.Common.{ap, append_assoc, arith, length, length-append, refl, sym}
use Rattle.std.proofs.lemmas.List.{append-nil}
use Rattle.std.proofs.lemmas.Result.{err_from_is_err_and}
use Rattle.ordup_script.proofs.Readings.{hands_out, reads_none, reads_part, reads_then, stops_before}
use Rattle.ordup_script.proofs.line_reader.read_piece.Goals as goal

pub loop-part-init : goal.loop-part-init
loop-part-init g c = (omega arith, [], refl, reads_none _ _)

-- one line of a piece more
line_done : (piece done rest part more : List ℕ) → piece ≡ done ++ rest → rest ≡ part ++ 10 ∷ more
    → piece ≡ (done ++ (part ++ 10 ∷ [])) ++ more
line_done piece done rest part more is cut =
    is ∙ ap (λ t. done ++ t) (cut ∙ sym (append_assoc part (10 ∷ []) more)) ∙ sym (append_assoc done (part ++ 10 ∷ []) more)

pub returns-in_err-end_line-clause-lines : goal.returns-in_err-end_line-clause-lines
returns-in_err-end_line-clause-lines g c =
    let failed = err_from_is_err_and c.from_residual.result c.from_residual.ensures.1 in
    let (lines_left, done, is, so_far) = c.loop-part.invariant in
    rw (failed.1, failed.2, line_done c.args.piece.now done _ _ c.in-Some.more.now is c.in-Some.ensures.1)
    (stops_before c.in-Some.more.now (reads_then {r = Err c.in_err-end_line.field-0.0} so_far c.in_err-end_line.ensures.lines))

pub loop-part-preserved : goal.loop-part-preserved
loop-part-preserved g c =
    let (lines_left, done, is, so_far) = c.loop-part.invariant in
    let part = c.in-Some.part in
    let more = c.in-Some.more.now in
    let size = simp length-append at (ap length c.in-Some.ensures.1) in (
      omega (arith, lines_left, c.in_ok-end_line.ensures.lines_left, size),
      done ++ (part ++ 10 ∷ []),
      line_done c.args.piece.now done _ part more is c.in-Some.ensures.1,
      reads_then so_far c.in_ok-end_line.ensures.lines,
    )

pub returns-clause-lines : goal.returns-clause-lines
returns-clause-lines g c =
    let (lines_left, done, is, so_far) = c.loop-part.invariant in
    let rest = c.loop-part.rest.now in
    let held = reads_part c.loop-part.taker c.loop-part.held c.hold.new.self rest c.hold.ensures in
    rw (is, ← append-nil (done ++ rest))
    (reads_then (reads_then so_far held) (hands_out c.hold.new.self c.hand_out.result c.hand_out.ensures.lines))
