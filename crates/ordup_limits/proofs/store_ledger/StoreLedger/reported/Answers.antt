-- A site that has reported more is allowed more, so the weights up to which all sites keep their limits are still good.
-- The one ledger that changes stands at the index of the site.
use Rattle.std.proofs.Common.{arith, ap, sym, ◌∙◌, ◌≡◌, ◌<◌, ◌≤◌, length, get_or}
use Rattle.std.proofs.Math.ListN.{length-set}
use Rattle.std.proofs.lemmas.Grind.{get_or-set_at}
use Rattle.std.proofs.lemmas.List.{get_or_default, get_or-set_other}
use Rattle.ordup_limits.specs.StoreLedgers.{allowed, scope_index, StoreLedgerState, SiteLedgerState}
use Rattle.ordup_limits.specs.StoreLedgerInside.{store_ledger_of}
use Rattle.ordup_limits.proofs.OverLemmas.{allowed-reported, StoreStandsFor-with_site}
use Rattle.ordup_limits.proofs.store_ledger.StoreLedger.reported.Goals as goal

pub index_mut-requires : goal.index_mut-requires
index_mut-requires g c = omega (arith, c.index.ensures, rw (← c.self.view_is) at c.requires.site)

pub report-requires : goal.report-requires
report-requires g c =
    let stands = rw (← c.self.view_is) at c.requires.stands in
    let sites = c.self.inside.sites.items in
    let old = c.index_mut.result.now in
    let index = c.index.result in
    let is : old ≡ get_or sites index old = c.index_mut.ensures.value in
    let lt : index < length sites = omega (arith, c.index.ensures, rw (← c.self.view_is) at c.requires.site) in
    record {
      forward = rw (← is) at (rw (← c.self.view_is, ← c.index.ensures) at (c.requires.forward old));
      last = c.requires.last;
      objects = stands.objects;
      masks = stands.masks;
      weights = rw (← is) at (stands.sites index old lt);
    }

pub invariant_of-self : goal.invariant_of-self
invariant_of-self g c = record {
  few = rw (length-set c.self.inside.sites.items c.index.result c.report.new.self) c.self.invariant.few;
  kept = c.self.invariant.kept;
}

pub returns-clause-place : goal.returns-clause-place
returns-clause-place g c = ap (λ (l : StoreLedgerState). l.added) c.self.view_is

pub returns-clause-count : goal.returns-clause-count
returns-clause-count g c = rw (← c.self.view_is) (length-set c.self.inside.sites.items c.index.result c.report.new.self)

pub returns-clause-others : goal.returns-clause-others
returns-clause-others g c = λ s d other.
    rw (← c.self.view_is)
    (get_or-set_other c.self.inside.sites.items c.index.result s c.report.new.self d (λ e. other (e ∙ c.index.ensures)))

pub returns-clause-reported : goal.returns-clause-reported
returns-clause-reported g c = λ d.
    (let sites = c.self.inside.sites.items in
    let index = c.index.result in
    let lt : index < length sites = omega (arith, c.index.ensures, rw (← c.self.view_is) at c.requires.site) in
    rw (get_or-set_at sites index c.args.site c.report.new.self d (sym c.index.ensures) lt) c.report.ensures.place)

pub returns-clause-amounts : goal.returns-clause-amounts
returns-clause-amounts g c = λ d.
    (let sites = c.self.inside.sites.items in
    let index = c.index.result in
    let lt : index < length sites = omega (arith, c.index.ensures, rw (← c.self.view_is) at c.requires.site) in
    let is = c.index_mut.ensures.value ∙ get_or_default sites index c.index_mut.result.now d lt in
    rw (get_or-set_at sites index c.args.site c.report.new.self d (sym c.index.ensures) lt, ← c.self.view_is, ← c.index.ensures)
    (c.report.ensures.amounts ∙ ap (λ (site : SiteLedgerState). site.amounts) is))

pub returns-clause-stands : goal.returns-clause-stands
returns-clause-stands g c =
    let h = c.args.log.now in
    let groups = c.args.groups.now in
    let stands = rw (← c.self.view_is) at c.requires.stands in
    let sites = c.self.inside.sites.items in
    let kept = c.self.inside.kept.items in
    let old = c.index_mut.result.now in
    let index = c.index.result in
    let is : old ≡ get_or sites index old = c.index_mut.ensures.value in
    let lt : index < length sites = omega (arith, c.index.ensures, rw (← c.self.view_is) at c.requires.site) in
    let forward : (get_or sites index old).reported.place ≤ c.args.to = rw (← c.self.view_is, ← c.index.ensures) at (c.requires.forward old) in
    StoreStandsFor-with_site (store_ledger_of c.self.inside) h groups index c.report.new.self kept stands lt c.report.ensures.weights
    (λ scope known. (let before : get_or kept (scope_index scope) 0 ≤ allowed h groups old scope =
    rw (← is) at (stands.kept index old scope lt known) in (
      omega (
        arith,
        before,
        allowed-reported h groups old c.report.new.self scope c.report.ensures.amounts (omega (arith, rw (← is) at forward, c.report.ensures.place)),
      ),
      omega arith,
    )))
