use Rattle.ordup_limits.specs.Entries.{latest}
use Rattle.ordup_primary.specs.Primaries.{limits_at, progress_at}
use Rattle.ordup_holds.proofs.book.Book.into_parts.Goals as goal

pub returns-clause-within : goal.returns-clause-within
returns-clause-within g c =
    let p = c.self.inside.primary in
    λ s applied there le.
    c.later_spans_keep_limits.ensures p.log p.setup.groups (latest (limits_at p s)) (progress_at p s).reported applied p.acked le
    (c.keeps.ensures.sound.lags s there)
