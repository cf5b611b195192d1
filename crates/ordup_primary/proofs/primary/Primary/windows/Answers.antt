use Rattle.std.proofs.Common.{ap, sym, ◌∙◌}
use Rattle.ordup_primary.specs.Primaries.{SiteProgress}
use Rattle.ordup_primary.specs.PrimaryInside.{state_of}
use Rattle.ordup_primary.proofs.PrimaryLemmas.{HasFewestRounds-sound, view_at}
use Rattle.ordup_primary.proofs.primary.Primary.windows.Goals as goal

pub returns-clause-fewest : goal.returns-clause-fewest
returns-clause-fewest g c = rw (← c.self.view_is) (HasFewestRounds-sound (state_of c.self.inside) c.self.invariant.primary)

pub returns-clause-windows : goal.returns-clause-windows
returns-clause-windows g c =
    let lt = rw (← c.self.view_is) at c.requires in
    let e = view_at c.self.inside c.index.result c.args.site c.index-2.result.now c.index.ensures lt c.index-2.ensures in
    rw (← c.self.view_is) (c.as_slice.ensures.value ∙ sym (ap (λ (site : SiteProgress). site.windows) e))
