use Rattle.std.proofs.Common.{arith, sym, ◌∙◌}
use Rattle.ordup_grammar.proofs.SpelledLemmas.{last_four_tell}
use Rattle.ordup_grammar.proofs.bytes.is_spelled.Goals as goal

pub returns : goal.returns
returns c =
    last_four_tell c.args.word.now c.args.keyword.now (omega arith) c.requires.0 c.requires.1 (λ i. (c.type_inv.word i).fits)
    (λ i. (c.type_inv.keyword i).fits) c.four_bytes-2.result c.four_bytes-3.result
    (sym c.four_bytes.ensures ∙ c.if-four_bytes.false ∙ c.four_bytes-else-word-keyword.ensures) c.four_bytes-2.ensures
    c.four_bytes-3.ensures
