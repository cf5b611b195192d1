-- A primary and sites that agree with it are a closed cluster. Where a site is mixed, its number is that of a declared one.
use Rattle.std.proofs.Common.{◌≡◌, ◌<◌, refl, length, rules, arith, ⊎_elim}
use Rattle.ordup_cluster.proofs.ClosedLemmas.{is-closed}
use Rattle.ordup_cluster.proofs.cluster.Cluster.close.Goals as goal

pub invariant_of-result : goal.invariant_of-result
invariant_of-result c =
    let parts = c.into_parts-primary.ensures in
    let count = rw c.in-None.is at c.first_mixed-mixed.ensures.count in
    let agree = rw c.in-None.is at c.first_mixed-mixed.ensures.agree in
    record {
      before = c.self.invariant.before;
      closed =
          is-closed c.self.inside.before c.into_parts-primary.result.0 c.sites_of-sites.result.items parts.sound count agree parts.within;
    }

pub returns-clause-closed : goal.returns-clause-closed
returns-clause-closed c =
    let parts = c.into_parts-primary.ensures in
    let count = rw c.in-None.is at c.first_mixed-mixed.ensures.count in
    let agree = rw c.in-None.is at c.first_mixed-mixed.ensures.agree in
    is-closed c.self.inside.before c.into_parts-primary.result.0 c.sites_of-sites.result.items parts.sound count agree parts.within

pub returns-in-Some-clause-refused : goal.returns-in-Some-clause-refused
returns-in-Some-clause-refused c =
    let some : 0 < length c.args.self.start.sites = search rules in
    let all : length c.sites_of-sites.result.items ≡ length c.args.self.start.sites = search rules in
    let mixed = rw c.in-Some.is at c.first_mixed-mixed.ensures.mixed in (
      c.in-Some.site,
      refl,
      ⊎_elim (λ differ. let first = differ.1 in omega arith)
          (λ is. let there = is.there in omega arith)
          mixed,
    )
