use Rattle.std.proofs.Common.{ap, sym, ◌∙◌}
use Rattle.ordup_primary.specs.Reports.{changes_of}
use Rattle.ordup_primary.specs.Primaries.{SiteProgress, first_progress}
use Rattle.ordup_primary.proofs.PrimaryLemmas.{changes_at, view_at}
use Rattle.ordup_primary.proofs.primary.Primary.report_changes.Goals as goal

pub returns : goal.returns
returns g c =
    let lt = rw (← c.self.view_is) at c.requires in
    let e = view_at c.self.inside c.index.result c.args.site c.index-2.result.now c.index.ensures lt c.index-2.ensures in
    rw (← c.self.view_is) (record {
      changes = c.changes.ensures
          ∙ changes_at c.self.inside c.index.result c.args.site c.index-2.result.now c.self.invariant.kept c.index.ensures lt c.index-2.ensures
          ∙ sym (ap (λ (site : SiteProgress). changes_of site.reports) e);
      decided = (c.self.invariant.primary.sites c.args.site first_progress lt).count;
    })
