-- The declared limits are on scopes that the setup knows, and a ledger without updates is right for any such limits.
use Rattle.std.proofs.Common.{arith, length}
use Rattle.std.proofs.lemmas.Result.{err_from_is_err_and}
use Rattle.ordup_primary.proofs.LedgerLemmas.{HasLedger-first}
use Rattle.ordup_primary.proofs.starting.first_store_ledger.Goals as goal

pub new-requires-clause-known : goal.new-requires-clause-known
new-requires-clause-known g c =
    rw (c.requires, c.groups.ensures.groups)
    (length c.args.setup.now.objects, (rw c.objects.ensures at c.keeps-2.ensures.few, c.keeps.ensures.known))

pub returns-clause-ledger : goal.returns-clause-ledger
returns-clause-ledger g c =
    let made = c.in_ok-ledger.ensures in
    HasLedger-first c.args.setup.now c.in_ok-ledger.ledger c.keeps.ensures.count (rw c.objects.ensures at c.keeps-2.ensures.few)
    c.keeps.ensures.known (rw c.requires at made.count) made.places (rw c.groups.ensures.groups at made.stands)
    (rw (c.requires, c.groups.ensures.groups) at made.sites)

pub new-requires-clause-few : goal.new-requires-clause-few
new-requires-clause-few g c = rw c.requires (omega (arith, c.keeps.ensures.few, c.keeps.ensures.count))

pub returns-in_err-ledger-clause-refused : goal.returns-in_err-ledger-clause-refused
returns-in_err-ledger-clause-refused g c =
    let failed = err_from_is_err_and c.from_residual.result c.from_residual.ensures.1 in
    rw (failed.1, failed.2) c.in_err-ledger.ensures.refused
