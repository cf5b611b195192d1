-- The list has the sites below the index that are waited for, in order. At the end the index is past all sites.
use Rattle.std.proofs.Common.{arith, ap, sym, length, ◌∙◌}
use Rattle.std.proofs.lemmas.List.{length_push}
use Rattle.ordup_primary.specs.Primaries.{waits_for}
use Rattle.ordup_primary.proofs.PrimaryLemmas.{waiting-below}
use Rattle.ordup_primary.proofs.SettlingLemmas.{where_below-more, where_below-kept}
use Rattle.ordup_primary.proofs.primary.Primary.waiting_now.Goals as goal
use Rattle.ordup_primary.proofs.primary.Primary.waiting_now.Goals.{then-waits_for, else-waits_for}

pub waits_for-requires : goal.waits_for-requires
waits_for-requires g c = omega (arith, c.new-site.ensures, c.loop-index-test.true, c.count-index-end.ensures.count)

pub push-requires : goal.push-requires
push-requires g c =
    omega (
      arith,
      c.loop-index.invariant.few,
      c.loop-index-test.true,
      c.count-index-end.ensures.count,
      c.count-index-end.ensures.few,
    )

pub loop-index-init : goal.loop-index-init
loop-index-init g c = record {
  few = omega (arith, ap length c.new-waiting.ensures);
  sites = c.new-waiting.ensures;
}

pub loop-index-preserved : goal.loop-index-preserved
loop-index-preserved g c =
    let before = c.loop-index.invariant in
    elim c.if-waits_for.branch [
      | then-waits_for w ↦ record {
        few = omega (arith, before.few, ap length (w.waiting-is ∙ w.push.ensures), length_push c.loop-index.waiting c.new-site.result);
        sites = w.waiting-is ∙ rw c.new-site.ensures at w.push.ensures ∙ where_below-more (waits_for c.args.self.now) c.loop-index.index
            c.loop-index.waiting before.sites (sym (rw c.new-site.ensures at w.if-waits_for.ensures));
      }
      | else-waits_for w ↦ record {
        few = omega (arith, before.few, ap length w.waiting-is);
        sites = w.waiting-is ∙ where_below-kept (waits_for c.args.self.now) c.loop-index.index c.loop-index.waiting before.sites
            (sym (rw c.new-site.ensures at w.if-waits_for.ensures));
      }
    ]

pub returns : goal.returns
returns g c =
    c.loop-index.invariant.sites ∙ waiting-below c.args.self.now c.loop-index.index c.requires
    (omega (arith, c.loop-index-test.false, c.loop-index.auto.index-end, c.count-index-end.ensures.count))
