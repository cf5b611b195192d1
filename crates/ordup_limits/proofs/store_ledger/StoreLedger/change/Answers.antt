-- The amount may fall, so the weight up to which all sites keep their limits on the scope becomes 0, which passes none.
-- What the site is allowed on other scopes stays, and so do the other sites.
use Rattle.std.proofs.Common.{arith, ap, sym, ◌∙◌, ◌≡◌, ◌<◌, ◌≤◌, length, get_or, inl, inr}
use Rattle.std.specs.Prelude.{min}
use Rattle.std.proofs.Math.ListN.{set, length-set}
use Rattle.std.proofs.lemmas.Bool.{cases_eq}
use Rattle.std.proofs.lemmas.Grind.{get_or-set_at}
use Rattle.std.proofs.lemmas.List.{get_or_default, get_or-set_other}
use Rattle.ordup_log.specs.Spans.{span}
use Rattle.ordup_limits.specs.declared.limit.Limit.{Limit}
use Rattle.ordup_limits.specs.StoreLedgers.{allowed, scope_index, StoreLedgerState, SiteLedgerState}
use Rattle.ordup_limits.specs.Sizes.{greatest_amount}
use Rattle.ordup_limits.specs.StoreLedgerInside.{store_ledger_of}
use Rattle.ordup_limits.proofs.OverLemmas.{HasLimits-put, StoreStandsFor-with_site}
use Rattle.ordup_limits.proofs.SiteLemmas.{scope_index-small}
use Rattle.ordup_limits.proofs.store_ledger.StoreLedger.change.Goals as goal

pub index_mut-requires : goal.index_mut-requires
index_mut-requires g c = omega (arith, c.index.ensures, rw (← c.self.view_is) at c.requires.site)

pub put-requires : goal.put-requires
put-requires g c =
    let stands = rw (← c.self.view_is) at c.requires.stands in
    scope_index-small (length c.args.log.now.start) c.args.groups.now c.args.scope stands.objects c.keeps.ensures.few c.requires.known

pub index_mut-requires-2 : goal.index_mut-requires-2
index_mut-requires-2 g c =
    let stands = rw (← c.self.view_is) at c.requires.stands in
    let small = scope_index-small (length c.args.log.now.start) c.args.groups.now c.args.scope stands.objects c.keeps.ensures.few c.requires.known in
    omega (arith, c.scope_index.ensures, small, c.self.invariant.kept)

pub invariant_of-self : goal.invariant_of-self
invariant_of-self g c = record {
  few = rw (length-set c.self.inside.sites.items c.index.result c.put.new.self) c.self.invariant.few;
  kept = length-set c.self.inside.kept.items c.scope_index.result 0 ∙ c.self.invariant.kept;
}

pub returns-clause-place : goal.returns-clause-place
returns-clause-place g c = ap (λ (l : StoreLedgerState). l.added) c.self.view_is

pub returns-clause-count : goal.returns-clause-count
returns-clause-count g c = rw (← c.self.view_is) (length-set c.self.inside.sites.items c.index.result c.put.new.self)

pub returns-clause-others : goal.returns-clause-others
returns-clause-others g c = λ s d other.
    rw (← c.self.view_is)
    (get_or-set_other c.self.inside.sites.items c.index.result s c.put.new.self d (λ e. other (e ∙ c.index.ensures)))

pub returns-clause-reported : goal.returns-clause-reported
returns-clause-reported g c = λ d.
    (let sites = c.self.inside.sites.items in
    let index = c.index.result in
    let lt : index < length sites = omega (arith, c.index.ensures, rw (← c.self.view_is) at c.requires.site) in
    let is = c.index_mut.ensures.value ∙ get_or_default sites index c.index_mut.result.now d lt in
    rw (get_or-set_at sites index c.args.site c.put.new.self d (sym c.index.ensures) lt, ← c.self.view_is, ← c.index.ensures)
    (ap (λ (site : SiteLedgerState). site.reported) c.put.ensures.put ∙ ap (λ (site : SiteLedgerState). site.reported) is))

pub returns-clause-limits : goal.returns-clause-limits
returns-clause-limits g c = λ limits d has.
    (let h = c.args.log.now in
    let groups = c.args.groups.now in
    let l : Limit = record { scope = c.args.scope; amount = c.args.amount } in
    let sites = c.self.inside.sites.items in
    let index = c.index.result in
    let lt : index < length sites = omega (arith, c.index.ensures, rw (← c.self.view_is) at c.requires.site) in
    let stands = rw (← c.self.view_is) at c.requires.stands in
    let before = rw (← c.self.view_is, ← c.index.ensures) at has in
    let is = c.index_mut.ensures.value ∙ get_or_default sites index c.index_mut.result.now d lt in
    rw (get_or-set_at sites index c.args.site c.put.new.self d (sym c.index.ensures) lt, c.put.ensures.put)
    (HasLimits-put (length h.start) groups limits l c.index_mut.result.now stands.objects c.keeps.ensures.few c.requires.known
    c.put.ensures.count (rw (← is) at before)))

pub returns-clause-stands : goal.returns-clause-stands
returns-clause-stands g c =
    let h = c.args.log.now in
    let groups = c.args.groups.now in
    let stands = rw (← c.self.view_is) at c.requires.stands in
    let sites = c.self.inside.sites.items in
    let kept = c.self.inside.kept.items in
    let old = c.index_mut.result.now in
    let index = c.index.result in
    let is : old ≡ get_or sites index old = c.index_mut.ensures.value in
    let lt : index < length sites = omega (arith, c.index.ensures, rw (← c.self.view_is) at c.requires.site) in
    let there : c.scope_index.result < length kept =
    omega (
      arith,
      c.scope_index.ensures,
      scope_index-small (length h.start) groups c.args.scope stands.objects c.keeps.ensures.few c.requires.known,
      c.self.invariant.kept,
    ) in
    let weights = rw (← is) at (stands.sites index old lt) in
    StoreStandsFor-with_site (store_ledger_of c.self.inside) h groups index c.put.new.self (set kept c.scope_index.result 0) stands lt
    (rw (ap (λ (site : SiteLedgerState). site.reported) c.put.ensures.put) weights)
    (λ scope known. elim (cases_eq (scope_index scope) c.scope_index.result) [
      | inl here ↦ (let none = get_or-set_at kept c.scope_index.result (scope_index scope) 0 0 here there in
          (omega (arith, none), omega (arith, none)))
      | inr other ↦ (let same = get_or-set_other kept c.scope_index.result (scope_index scope) 0 0 other in
          let before : get_or kept (scope_index scope) 0 ≤ allowed h groups old scope = rw (← is) at (stands.kept index old scope lt known) in
          let amounts = ap (λ (site : SiteLedgerState). get_or site.amounts (scope_index scope) 0) c.put.ensures.put in
          let amount = get_or-set_other old.amounts (scope_index c.args.scope) (scope_index scope)
          (min c.args.amount greatest_amount) 0
          (λ e. other (e ∙ sym c.scope_index.ensures)) in
          let reported = ap (λ (site : SiteLedgerState). span h groups scope 0 site.reported.place) c.put.ensures.put in
          (omega (arith, same, before, amounts, amount, reported), omega (arith, same)))
    ])
