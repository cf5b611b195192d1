-- The amount and the weight stand at the number of the scope alike. Each is at most 10^18, so their sum fits.
use Rattle.std.proofs.lemmas.List.{get_or_read}
use Rattle.std.proofs.Common.{arith}
use Rattle.ordup_limits.proofs.site_ledger.SiteLedger.allowed.Goals as goal

pub on-requires : goal.on-requires
on-requires g c = record { weights = rw (← c.self.view_is) at c.requires.weights; index = c.requires.index; known = c.requires.known }

pub index-requires : goal.index-requires
index-requires g c = omega (arith, c.scope_index.ensures, c.requires.index, c.self.invariant.count)

pub overflow_add-result : goal.overflow_add-result
overflow_add-result g c =
    let at = get_or_read c.self.inside.amounts.items c.scope_index.result c.index.result.now
    (omega (arith, c.scope_index.ensures, c.requires.index, c.self.invariant.count)) c.index.ensures 0 in
    omega (arith, at, c.self.invariant.few c.scope_index.result, c.on.ensures.few)

pub returns : goal.returns
returns g c =
    let at = get_or_read c.self.inside.amounts.items c.scope_index.result c.index.result.now
    (omega (arith, c.scope_index.ensures, c.requires.index, c.self.invariant.count)) c.index.ensures 0 in
    rw (← c.self.view_is, ← c.scope_index.ensures) (omega (arith, at, c.on.ensures.weight))
