-- Limits that begin to hold.
use Rattle.ordup_audit.proofs.Common.{◌+◌, ◌<◌, ◌≡◌, Entries, get_or, length, sym, take, ℕ}
use Rattle.ordup_log.specs.declared.scope.Scope.{Scope}
use Rattle.ordup_limits.specs.declared.limit_entry.LimitEntry.{LimitEntry}
use Rattle.ordup_limits.specs.Entries.{latest, put}
use Rattle.ordup_limits.specs.Limits.{are_on_one_scope, Limits}
use Rattle.ordup_limits.proofs.EntryLemmas.{latest-more}

-- the last limits of the first entries, with that of the next one put in
pub latest-next : (entries : Entries) (i : ℕ) (d : LimitEntry) (limits : Limits) (scope : Scope) (amount : ℕ) → i < length entries
    → limits ≡ latest (take i entries) → scope ≡ (get_or entries i d).limit.scope → amount ≡ (get_or entries i d).limit.amount
    → put are_on_one_scope limits (record { scope = scope; amount = amount }) ≡ latest (take (i + 1) entries)
latest-next entries i d limits scope amount lt are same_scope same_amount =
    rw (are, same_scope, same_amount) (sym (latest-more entries i d lt))
