-- Of what a site reported only the changes are kept.
-- As of a decided place they give the same number as a list with one for each place.
use Rattle.std.proofs.Common.{arith, ap, sym, ◌∙◌}
use Rattle.ordup_primary.specs.Primaries.{SiteProgress, reported_at}
use Rattle.ordup_primary.proofs.PrimaryLemmas.{changes_at, view_at}
use Rattle.ordup_primary.proofs.ReportLemmas.{changes-rise, report_at-found}
use Rattle.ordup_primary.proofs.primary.Primary.reported_at.Goals as goal

pub at-requires-clause-rising : goal.at-requires-clause-rising
at-requires-clause-rising g c =
    let lt = rw (← c.self.view_is) at c.requires.site in
    changes-rise c.index-2.result.now.reports.changes c.self.inside.decided
    (changes_at c.self.inside c.index.result c.args.site c.index-2.result.now c.self.invariant.kept c.index.ensures lt c.index-2.ensures)

pub at-requires-clause-few : goal.at-requires-clause-few
at-requires-clause-few g c =
    let is = c.self.invariant.primary in
    omega (arith, rw (← c.self.view_is) at c.requires.decided, is.decided, is.few)

pub returns : goal.returns
returns g c =
    let lt = rw (← c.self.view_is) at c.requires.site in
    let e = view_at c.self.inside c.index.result c.args.site c.index-2.result.now c.index.ensures lt c.index-2.ensures in
    let are =
    changes_at c.self.inside c.index.result c.args.site c.index-2.result.now c.self.invariant.kept c.index.ensures lt c.index-2.ensures in
    rw (← c.self.view_is) (c.at.ensures
    ∙ report_at-found c.index-2.result.now.reports.changes c.self.inside.decided are c.args.place c.requires.some
    (rw (← c.self.view_is) at c.requires.decided)
    ∙ sym (ap (λ (site : SiteProgress). reported_at site c.args.place) e))
