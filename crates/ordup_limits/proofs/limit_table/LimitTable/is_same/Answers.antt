use Rattle.std.proofs.Common.{rules}
use Rattle.std.proofs.lemmas.Slice.Eq.{slice_eq-Decides}
use Rattle.ordup_limits.specs.declared.limit_entry.LimitEntry.{LimitEntry}
use Rattle.ordup_limits.proofs.limit_table.LimitTable.is_same.Goals as goal

pub returns : goal.returns
returns g c =
    rw (← c.entries.ensures, ← c.entries-2.ensures) (slice_eq-Decides {A = LimitEntry} (λ a b. search rules) c.entries.result.now
    c.entries-2.result.now c.eq.result c.eq.ensures)
