use Rattle.ordup_grammar.proofs.ChangeParts.{no_kind}
use Rattle.ordup_grammar.proofs.change_words.Kind.split.Goals as goal

pub returns-in_default-strip_prefix-5 : goal.returns-in_default-strip_prefix-5
returns-in_default-strip_prefix-5 c =
    no_kind c.args.word.now c.in_default.ensures c.in_default-strip_prefix.ensures c.in_default-strip_prefix-2.ensures
    c.in_default-strip_prefix-3.ensures c.in_default-strip_prefix-4.ensures c.in_default-strip_prefix-5.ensures
