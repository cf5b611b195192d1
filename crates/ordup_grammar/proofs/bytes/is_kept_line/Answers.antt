-- Two lines of one length are the same where blocks that cover them are. The first and the last eight bytes cover a line of
-- at most 16, and with the eight behind the first ones a line of at most 24.
use Rattle.std.proofs.Common.{arith, sym, ◌∙◌}
use Rattle.std.specs.Cmp.Lexicographic.{bytes_decides}
use Rattle.std.proofs.lemmas.Bool.{eqb-true}
use Rattle.ordup_grammar.proofs.KeptLemmas.{same_short, same_long}
use Rattle.ordup_grammar.proofs.bytes.is_kept_line.Goals as goal

pub returns-then-len-lt8-clause-same : goal.returns-then-len-lt8-clause-same
returns-then-len-lt8-clause-same c same = (bytes_decides c.args.line.now c.args.kept.now).0 (sym c.is_spelled.ensures ∙ same)

pub returns-then-len-lt8-clause-found : goal.returns-then-len-lt8-clause-found
returns-then-len-lt8-clause-found c same = c.is_spelled.ensures ∙ (bytes_decides c.args.line.now c.args.kept.now).1 same

pub returns-then-len-le16-clause-same : goal.returns-then-len-le16-clause-same
returns-then-len-le16-clause-same c short =
    same_short c.args.line.now c.args.kept.now c.if-line-len.false (omega (arith, c.if-len-lt8.false)) c.requires.1 (λ i. (c.type_inv.line i).fits)
    (λ i. (c.type_inv.kept i).fits) (omega (arith, c.if-len-le16.true))
    (sym c.eight_bytes.ensures ∙ c.if-eight_bytes.false ∙ c.eight_bytes-else-line-len.ensures)
    (sym c.eight_bytes-2.ensures ∙ c.if-eight_bytes-2.false ∙ c.eight_bytes-3.ensures)

pub returns-else-len-le16-clause-same : goal.returns-else-len-le16-clause-same
returns-else-len-le16-clause-same c same =
    same_long c.args.line.now c.args.kept.now c.if-line-len.false (omega (arith, c.if-len-lt8.false)) c.requires.1 (λ i. (c.type_inv.line i).fits)
    (λ i. (c.type_inv.kept i).fits) (omega (arith, c.if-len-le16.false))
    (sym c.eight_bytes.ensures ∙ c.if-eight_bytes.false ∙ c.eight_bytes-else-line-len.ensures)
    (sym c.eight_bytes-2.ensures ∙ c.if-eight_bytes-2.false ∙ c.eight_bytes-3.ensures)
    (sym c.eight_bytes-else-len-le16.ensures ∙ eqb-true _ _ same ∙ c.eight_bytes-else-len-le16-2.ensures)
