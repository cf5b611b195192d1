use Rattle.std.proofs.Common.{◌∙◌, sym}
use Rattle.ordup_grammar.proofs.SettleLemmas.{asks_to_settle}
use Rattle.ordup_grammar.proofs.line_buffer.LinePart.is_settle.Goals as goal

pub returns-clause-asks : goal.returns-clause-asks
returns-clause-asks c same =
    asks_to_settle c.args.self.now (rw c.as_bytes.ensures at (sym c.is_spelled.ensures ∙ same))
