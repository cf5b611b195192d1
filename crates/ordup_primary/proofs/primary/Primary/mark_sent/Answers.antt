-- The number sent rises by one and stays within the log. Neither the ledgers nor what is kept of reports depend on it.
use Rattle.std.proofs.Common.{arith, refl, ap, ◌+◌}
use Rattle.std.proofs.lemmas.Grind.{common_steps}
use Rattle.ordup_primary.specs.Primaries.{SiteProgress, PrimaryState}
use Rattle.ordup_primary.specs.PrimaryInside.{state_of}
use Rattle.ordup_primary.proofs.PrimaryLemmas.{view_at, view-set, sent_more, IsPrimary-sent}
use Rattle.ordup_primary.proofs.KeptLemmas.{AreKept-set}
use Rattle.ordup_primary.proofs.LedgerLemmas.{HasLedger-with_site}
use Rattle.ordup_primary.proofs.primary.Primary.mark_sent.Goals as goal

pub overflow_add-index_mut : goal.overflow_add-index_mut
overflow_add-index_mut g c =
    let lt = rw (← c.self.view_is) at c.requires.site in
    let e = view_at c.self.inside c.index.result c.args.site c.index_mut.result.now c.index.ensures lt c.index_mut.ensures.value in
    omega (arith, ap (λ (site : SiteProgress). site.sent) e, rw (← c.self.view_is) at c.requires.unsent, c.self.invariant.primary.few)

pub invariant_of-self : goal.invariant_of-self
invariant_of-self g c =
    let lt = rw (← c.self.view_is) at c.requires.site in
    let e = view-set c.self.inside c.index.result c.args.site c.index_mut.result.now
    (record c.index_mut.result.now { sent = c.index_mut.result.now.sent + 1 })
    sent_more c.index.ensures lt c.index_mut.ensures.value refl in
    record {
      primary = IsPrimary-sent c.self.inside _ c.args.site c.self.invariant.primary lt (rw (← c.self.view_is) at c.requires.unsent) e;
      ledger =
          HasLedger-with_site (state_of c.self.inside) c.self.inside.ledger c.args.site _ _ c.self.invariant.ledger lt refl e;
      kept =
          AreKept-set c.self.inside c.self.inside.moved c.index.result c.args.site c.index_mut.result.now
          (record c.index_mut.result.now { sent = c.index_mut.result.now.sent + 1 }) c.self.invariant.kept c.index.ensures lt
          c.index_mut.ensures.value refl (λ t other. refl) (λ none. (none, refl));
    }

pub returns-clause-marked : goal.returns-clause-marked
returns-clause-marked g c =
    let lt = rw (← c.self.view_is) at c.requires.site in
    let e = view-set c.self.inside c.index.result c.args.site c.index_mut.result.now
    (record c.index_mut.result.now { sent = c.index_mut.result.now.sent + 1 })
    sent_more c.index.ensures lt c.index_mut.ensures.value refl in
    rw (← c.self.view_is) (ap (λ sites. let p : PrimaryState = record (state_of c.self.inside) { sites = sites } in p) e)

pub index_mut-requires : goal.index_mut-requires
index_mut-requires g c = grind (arith, common_steps)
