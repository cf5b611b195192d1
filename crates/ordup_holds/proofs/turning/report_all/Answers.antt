-- A report changes the primary at its site alone. So the sites before the index have reported, and the others are as before.
use Rattle.std.proofs.Common.{refl, ap, ◌∙◌, length, arith}
use Rattle.ordup_holds.specs.Turning.{Reported}
use Rattle.ordup_holds.proofs.BookLemmas.{keeps-at, sites-count, upto-none, upto-more, upto-all}
use Rattle.std.proofs.lemmas.Option.{slice_get_read}
use Rattle.ordup_primary.specs.Declarations.{Declared}
use Rattle.ordup_holds.proofs.turning.report_all.Goals as goal

pub loop-index-init : goal.loop-index-init
loop-index-init g c = record {
  kept = c.requires.kept;
  upto = upto-none Reported _;
  sites =
      let count = c.keeps.ensures.sound.count in
      omega (arith, count, c.sites-index-end.ensures.sites, ap (λ (d : Declared). length d.sites) c.setup.ensures);
}

pub report-requires-clause-tied : goal.report-requires-clause-tied
report-requires-clause-tied g c = rw c.new-site.ensures (let before = c.loop-index.invariant in
    before.kept.tied _ _
    (slice_get_read c.loop-index.ends.items _ _ _ refl (omega (arith, before.kept.count, before.sites, c.loop-index-test.true))
    c.index_mut.ensures.value))

pub loop-index-preserved : goal.loop-index-preserved
loop-index-preserved g c =
    let before = c.loop-index.invariant in
    let site = rw c.new-site.ensures at c.report.ensures.site in
    let at =
    slice_get_read c.loop-index.ends.items _ _ _ refl (omega (arith, before.kept.count, before.sites, c.loop-index-test.true))
    c.index_mut.ensures.value in
    record {
      kept = keeps-at _ _ _ _ _ _ before.kept site (rw c.new-site.ensures at c.report.ensures.tied);
      upto =
          upto-more Reported _ _ _ _ _ _ before.upto (omega (arith, before.sites, c.loop-index-test.true)) at
          site (rw c.new-site.ensures at c.report.ensures.reported);
      sites = sites-count _ _ _ _ site ∙ before.sites;
    }

pub returns-clause-reported : goal.returns-clause-reported
returns-clause-reported g c =
    let before = c.loop-index.invariant in
    upto-all Reported _ _ _ before.upto
    (omega (arith, c.requires.kept.count, before.upto.sites, before.sites, c.loop-index-test.false))
