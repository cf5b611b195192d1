use Rattle.ordup_grammar.proofs.PrintedLemmas.{all_printed}
use Rattle.ordup_grammar.proofs.line_buffer.LinePart.is_printed.Goals as goal

pub returns-else-self : goal.returns-else-self
returns-else-self c =
    rw (c.printed_prefix.ensures, c.as_bytes.ensures, c.len.ensures.len, ← c.self.view_is) (all_printed c.self.inside.bytes)
