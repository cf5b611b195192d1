-- Before any update and any report all weights are 0, whatever the log, and up to the weight 0 each site keeps its limits.
use Rattle.std.proofs.Common.{arith, ap, ◌∙◌, ℕ, length}
use Rattle.std.proofs.lemmas.List.{length-replicate}
use Rattle.ordup_limits.specs.StoreLedgers.{most_scopes, scope_index}
use Rattle.ordup_limits.proofs.TotalLemmas.{none_at}
use Rattle.ordup_limits.proofs.store_ledger.StoreLedger.new.Goals as goal

pub add_sites-requires : goal.add_sites-requires
add_sites-requires g c = record { none = c.new-sites.ensures.items; known = c.requires.known }

pub invariant_of-result : goal.invariant_of-result
invariant_of-result g c = record {
  few = omega (arith, c.in_ok-add_sites.ensures.count, c.requires.few);
  kept = ap length c.in_ok-kept.ensures.numbers ∙ length-replicate {A = ℕ} most_scopes 0;
}

pub returns-clause-count : goal.returns-clause-count
returns-clause-count g c = c.in_ok-add_sites.ensures.count

pub returns-clause-places : goal.returns-clause-places
returns-clause-places g c = c.in_ok-added.ensures.place

pub returns-clause-stands : goal.returns-clause-stands
returns-clause-stands g c = λ h objects. record {
  objects = objects;
  masks = c.in_ok-masks.ensures.masks;
  added = c.in_ok-added.ensures.weights h c.args.groups.now;
  sites = λ s d lt. (c.in_ok-add_sites.ensures.sites s d (omega (arith, lt, c.in_ok-add_sites.ensures.count))).weights h c.args.groups.now;
  kept = λ s d scope lt known. rw c.in_ok-kept.ensures.numbers (omega (arith, none_at most_scopes (scope_index scope)));
}

pub returns-clause-sites : goal.returns-clause-sites
returns-clause-sites g c = c.in_ok-add_sites.ensures.sites
