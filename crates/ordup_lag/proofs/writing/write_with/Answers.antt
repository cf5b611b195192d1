use Rattle.std.proofs.Common.{◌∙◌, ap, length}
use Rattle.ordup_limits.specs.Entries.{latest}
use Rattle.ordup_lag.proofs.writing.write_with.Goals as goal

pub write_rows-written-requires-clause-limits : goal.write_rows-written-requires-clause-limits
write_rows-written-requires-clause-limits g c =
    c.in-Ok.ensures ∙ c.len.ensures.len ∙ ap (λ entries. length (latest entries)) c.limits.ensures
