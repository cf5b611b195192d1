use Rattle.std.proofs.Common.{◌<◌, ◌≤◌, sym, inl, inr, arith}
use Rattle.std.specs.Prelude.{◌⊎◌}
use Rattle.std.proofs.lemmas.Grind.{common_steps}
use Rattle.ordup_grammar.proofs.PrefixLemmas.{index_in_prefix}
use Rattle.ordup_grammar.proofs.bytes.index_of.Goals.{
  then-index-lt-BLOCK-via-then-index-lt-BLOCK,
  then-index-lt-BLOCK-via-else-index-lt-BLOCK+then-len-le-BLOCK,
}
use Rattle.ordup_grammar.proofs.bytes.index_of.Goals as goal

pub returns-then-index-lt-BLOCK : goal.returns-then-index-lt-BLOCK
returns-then-index-lt-BLOCK c =
    let index = c.before_in_block-index.result in
    let way : (index < 16) ⊎ (c.args.len ≤ 16) = elim c.then-index-lt-BLOCK.branch [
      | then-index-lt-BLOCK-via-then-index-lt-BLOCK w ↦ inl w.if-index-lt-BLOCK.true
      | then-index-lt-BLOCK-via-else-index-lt-BLOCK+then-len-le-BLOCK w ↦ inr w.if-len-le-BLOCK.true
    ] in
    sym (index_in_prefix c.args.wanted c.args.text.now c.args.len index c.min.result c.requires c.if-text-ge-BLOCK.true
    c.before_in_block-index.ensures way (λ early. grind (arith, common_steps)) (λ late. grind (arith, common_steps)))
