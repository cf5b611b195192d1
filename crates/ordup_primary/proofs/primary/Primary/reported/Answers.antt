use Rattle.std.proofs.Common.{ap, sym}
use Rattle.ordup_primary.specs.Primaries.{SiteProgress}
use Rattle.ordup_primary.proofs.PrimaryLemmas.{view_at}
use Rattle.ordup_primary.proofs.primary.Primary.reported.Goals as goal

pub returns : goal.returns
returns g c =
    let lt = rw (← c.self.view_is) at c.requires in
    let e = view_at c.self.inside c.index.result c.args.site c.index-2.result.now c.index.ensures lt c.index-2.ensures in
    rw (← c.self.view_is) (sym (ap (λ (site : SiteProgress). site.reported) e))
