-- A limit that there is has a scope that is known, so what the updates weigh on it may be asked.
use Rattle.std.proofs.Common.{◌<◌, subst, ap, length, arith}
use Rattle.std.proofs.lemmas.Option.{get_or_from_slice_get, slice_get_within}
use Rattle.ordup_log.specs.Spans.{IsScopeKnown}
use Rattle.ordup_limits.specs.Entries.{latest}
use Rattle.ordup_limits.specs.declared.limit.Limit.{Limit}
use Rattle.ordup_limits.proofs.EntryLemmas.{latest-known}
use Rattle.ordup_shared.proofs.PrimaryLemmas.{tells-lag}
use Rattle.ordup_shared.proofs.primary.tell_lag.Goals as goal

pub lag_of-requires-clause-known : goal.lag_of-requires-clause-known
lag_of-requires-clause-known c =
    let limit : Limit = record { scope = c.get-scope.result.0; amount = c.get-scope.result.1 } in
    let limits = latest c.limits-limits.result.now in
    let at = c.get-scope.ensures in
    let known = latest-known _ _ _ c.limits-limits.ensures.known in
    subst (λ (l : Limit). IsScopeKnown (length c.args.primary.now.setup.objects) c.args.primary.now.setup.groups l.scope)
    (get_or_from_slice_get limits _ limit limit at)
    (known _ limit (slice_get_within limits _ limit at))

pub returns : goal.returns
returns c =
    let at = rw (c.limits-limits.ensures.limits, c.new-site.ensures) at c.get-scope.ensures in
    let site : c.args.site < length c.args.primary.now.sites = omega (arith, c.if-site-sites.false, c.sites.ensures.sites, ap (λ d. length d.sites) c.setup.ensures, c.keeps.ensures.sound.count) in
    let limit : Limit = record { scope = c.get-scope.result.0; amount = c.get-scope.result.1 } in
    tells-lag c.args.primary.now c.args.site c.args.index c.args.lag.now c.lag_of.result limit site at (rw c.new-site.ensures at c.lag_of.ensures)
