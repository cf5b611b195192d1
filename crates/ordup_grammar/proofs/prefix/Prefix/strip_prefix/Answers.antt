use Rattle.std.proofs.Common.{sym, ◌∙◌, length, take}
use Rattle.std.proofs.lemmas.List.{take-take}
use Rattle.ordup_grammar.proofs.PrefixLemmas.{behind_prefix}
use Rattle.ordup_grammar.proofs.prefix.Prefix.strip_prefix.Goals as goal

pub returns : goal.returns
returns c =
    let prefix = c.args.prefix.now in
    let begins = sym c.is_spelled.ensures ∙ c.if-not-is_spelled.false in
    rw (c.from.ensures, ← c.self.view_is)
    (behind_prefix prefix (take c.self.inside.len c.self.inside.text.now)
    (rw (take-take (length prefix) c.self.inside.len c.self.inside.text.now c.if-self-prefix.false) begins))
