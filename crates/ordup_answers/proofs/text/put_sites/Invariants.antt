use Rattle.std.proofs.Common.{◌≡◌, ◌+◌, ◌*◌, ◌≤◌, ◌++◌, drop}
use Rattle.ordup_answers.specs.Texts.{sites_text}
use Rattle.ordup_answers.specs.declared.text.TheConstants.{MOST_SITE_BYTES}
use Rattle.ordup_answers.proofs.text.put_sites.Given as goal

-- the sites so far and those that are left are all of them, and each took its spare capacity
abbrev pub invariant-loop-site : goal.invariant-loop-site
invariant-loop-site g l =
    (l.out.text ++ sites_text l.setup.sites (drop l.site-index l.sites) ≡ l.fn.out.text ++ sites_text l.setup.sites l.sites)
    × (l.fn.out.spare ≤ l.out.spare + l.site-index * MOST_SITE_BYTES)
