-- At the start nothing is decided and nothing was reported, so what a primary keeps follows from what its declarations keep.
use Rattle.std.proofs.Common.{List, length, map, get_or, arith, rules, ap, refl, ◌≡◌}
use Rattle.std.specs.Prelude.{replicate}
use Rattle.ordup_primary.specs.Primaries.{SiteProgress, first_progress}
use Rattle.ordup_primary.specs.PrimaryInside.{first_kept, first_state, kept_of}
use Rattle.ordup_primary.proofs.PrimaryLemmas.{IsPrimary-new}
use Rattle.ordup_primary.proofs.KeptLemmas.{AreKept-first, first-seen}
use Rattle.ordup_primary.proofs.LedgerLemmas.{HasLedger-kept}
use Rattle.ordup_primary.proofs.primary.Primary.new.Goals as goal

pub invariant_of-result : goal.invariant_of-result
invariant_of-result g c =
    let kept : map kept_of c.begin-begun.new.sites.items ≡ replicate (length c.args.setup.sites) first_kept = search rules in
    let sites = first-seen (length c.args.setup.sites) _ kept in
    record {
      primary = IsPrimary-new _ c.keeps.ensures c.requires (search rules) (search rules) refl refl sites (search rules);
      ledger = HasLedger-kept (first_state c.args.setup) _ _ (search rules) refl (search rules)
          (search rules) (omega arith) (omega arith) (ap length sites)
          (λ s lt. ap (λ (sites : List SiteProgress). (get_or sites s first_progress).reported) sites);
      kept = AreKept-first (length c.args.setup.sites) _ kept;
    }

pub begin-begun-requires : goal.begin-begun-requires
begin-begun-requires g c = record {
  sites = c.new-sites.ensures.items;
  limits = c.new-limits.ensures.items;
}

pub returns-2-clause-sites : goal.returns-2-clause-sites
returns-2-clause-sites g c =
    let kept : map kept_of c.begin-begun.new.sites.items ≡ replicate (length c.args.setup.sites) first_kept = search rules in
    first-seen (length c.args.setup.sites) _ kept

pub returns-2-clause-sound : goal.returns-2-clause-sound
returns-2-clause-sound g c =
    let kept : map kept_of c.begin-begun.new.sites.items ≡ replicate (length c.args.setup.sites) first_kept = search rules in
    IsPrimary-new _ c.keeps.ensures c.requires (search rules) (search rules) refl refl
    (first-seen (length c.args.setup.sites) _ kept) (search rules)
