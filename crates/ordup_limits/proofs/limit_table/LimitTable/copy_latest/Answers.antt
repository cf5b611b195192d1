use Rattle.std.proofs.Common.{◌≡◌, ◌∙◌, sym}
use Rattle.ordup_limits.specs.Entries.{from_start, latest}
use Rattle.ordup_limits.proofs.LatestLemmas.{AreEntries-from_start, latest-from_start}
use Rattle.ordup_limits.proofs.limit_table.LimitTable.copy_latest.Goals as goal

pub invariant_of-result : goal.invariant_of-result
invariant_of-result g c =
    let entries = c.self.inside.entries.items in
    let limits : c.copy-limits.result ≡ latest entries = c.copy-limits.ensures ∙ c.self.invariant.limits in
    let copied : c.in_ok-entries.entries.items ≡ from_start (latest entries) = rw (sym limits) (c.in_ok-entries.ensures ∙ (λ i. from_start (c.as_slice.ensures.limits i))) in
    record {
      entries = rw copied (AreEntries-from_start entries c.self.invariant.entries);
      limits = rw copied (limits ∙ sym (latest-from_start entries));
    }
