-- An update takes a site over a limit only on a scope on which it weighs.
-- So for a site that was over none before it, the bits of these scopes tell whether it is over one now.
use Rattle.std.proofs.Common.{ap, ◌∙◌}
use Rattle.ordup_limits.specs.StoreLedgers.{StoreLedgerState}
use Rattle.ordup_limits.proofs.OverLemmas.{over-exact}
use Rattle.ordup_limits.proofs.store_ledger.StoreLedger.extend.Goals as goal

pub extend-requires : goal.extend-requires
extend-requires g c =
    let stands = rw (← c.self.view_is) at c.requires.stands in
    record {
      forward = rw (← c.self.view_is) at c.requires.forward;
      last = c.requires.last;
      objects = stands.objects;
      masks = stands.masks;
      weights = stands.added;
    }

pub sites_over-requires : goal.sites_over-requires
sites_over-requires g c =
    let stands = rw (← c.self.view_is) at c.requires.stands in
    record {
      some = rw c.extend.ensures.place c.requires.some;
      stands = record {
        objects = stands.objects;
        masks = stands.masks;
        added = c.extend.ensures.weights;
        sites = stands.sites;
        kept = stands.kept;
      };
    }

pub invariant_of-self : goal.invariant_of-self
invariant_of-self g c = record { few = c.self.invariant.few; kept = c.self.invariant.kept }

pub returns-clause-place : goal.returns-clause-place
returns-clause-place g c = ap (λ (l : StoreLedgerState). l.added.place) c.sites_over.ensures.rest ∙ c.extend.ensures.place

pub returns-clause-sites : goal.returns-clause-sites
returns-clause-sites g c =
    ap (λ (l : StoreLedgerState). l.sites) c.sites_over.ensures.rest ∙ ap (λ (l : StoreLedgerState). l.sites) c.self.view_is

pub returns-clause-stands : goal.returns-clause-stands
returns-clause-stands g c = c.sites_over.ensures.stands

pub returns-clause-over : goal.returns-clause-over
returns-clause-over g c =
    let over = rw c.extend.ensures.place at c.sites_over.ensures.over in
    rw (← c.self.view_is)
    (over-exact c.args.log.now c.keeps.ensures.legal c.args.groups.now c.keeps-2.ensures.groups c.args.to c.sites_over.result
    c.self.inside.sites.items c.requires.some c.requires.last c.keeps.ensures.few over)

pub returns-clause-there : goal.returns-clause-there
returns-clause-there g c = rw (← c.self.view_is) c.sites_over.ensures.over.there
