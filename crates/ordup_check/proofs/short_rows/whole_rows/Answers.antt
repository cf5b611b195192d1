use Rattle.std.proofs.Common.{rules, sym}
use Rattle.std.proofs.Common.{◌∙◌}
use Rattle.ordup_check.proofs.PlainRowLemmas.{passes_found}
use Rattle.ordup_check.proofs.short_rows.whole_rows.Goals as goal

pub returns-clause-text : goal.returns-clause-text
returns-clause-text c more =
    passes_found c.args.state c.args.left c.args.bytes.now c.min.result c.in-Some.end c.memchr.result more (search rules) (search rules)
    (search rules) c.in-Some.ensures c.memchr.ensures (sym c.is_some.ensures ∙ c.if-is_some.false)
