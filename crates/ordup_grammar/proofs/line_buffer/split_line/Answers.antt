-- No printed byte is a line feed. So one right behind the printed prefix is the first, and else the search finds the first.
use Rattle.std.proofs.Common.{sym, subst, Some}
use Rattle.std.specs.Prelude.{◌==◌}
use Rattle.memchr.specs.Find.{IsFirstByte}
use Rattle.ordup_grammar.specs.Lines.{is_line_feed}
use Rattle.ordup_grammar.proofs.PrintedLemmas.{first_line_feed, prefix_printed}
use Rattle.ordup_grammar.proofs.Splits.{fails-no_byte, split-first_byte}
use Rattle.ordup_grammar.proofs.line_buffer.split_line.Goals as goal

pub invariant_of-part : goal.invariant_of-part
invariant_of-part c = λ _. rw (c.new.ensures, c.printed_prefix-printed.ensures) (prefix_printed c.args.bytes.now)

pub returns-then-bytes-printed-eq10 : goal.returns-then-bytes-printed-eq10
returns-then-bytes-printed-eq10 c =
    let place = c.printed_prefix-printed.result in
    let bytes = c.args.bytes.now in
    rw c.new.ensures
    (split-first_byte 10 bytes place (subst (λ n. IsFirstByte (λ byte. byte == 10) bytes (Some n)) (sym c.printed_prefix-printed.ensures)
    (first_line_feed bytes (rw (← c.printed_prefix-printed.ensures) c.if-printed-bytes.true)
    (rw (← c.printed_prefix-printed.ensures) c.if-bytes-printed-eq10.true))))

pub returns : goal.returns
returns c = rw c.new-2.ensures (split-first_byte 10 c.args.bytes.now c.in_ok-end.end c.in_ok-end.ensures)

pub returns-in_err-end : goal.returns-in_err-end
returns-in_err-end c = rw c.from_residual.ensures (fails-no_byte is_line_feed c.args.bytes.now c.in_err-end.ensures)
