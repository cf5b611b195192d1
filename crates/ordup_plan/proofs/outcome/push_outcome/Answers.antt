use Rattle.std.proofs.Common.{◌∙◌, ap, sym}
use Rattle.std.specs.Prelude.{slice_get}
use Rattle.ordup_plan.specs.Outcomes.{certified_text, text_of_site}
use Rattle.ordup_plan.proofs.OutcomeLemmas.{texts_more}
use Rattle.ordup_plan.proofs.outcome.push_outcome.Goals as goal

pub loop-index-preserved : goal.loop-index-preserved
loop-index-preserved c =
    let p = c.primary-primary.result.now in
    let sites = c.args.closed.now.sites in
    texts_more (λ s. text_of_site p s (slice_get sites s)) c.loop-index.index _ _ _ _ c.loop-index.invariant c.in_ok-push_site.ensures
    (sym (ap (text_of_site p c.new-site.result) c.site.ensures) ∙ ap (λ s. text_of_site p s (slice_get sites s)) c.new-site.ensures)

pub loop-index-2-preserved : goal.loop-index-2-preserved
loop-index-2-preserved c =
    let p = c.primary-primary.result.now in
    texts_more (certified_text p) c.loop-index-2.index _ _ _ _ c.loop-index-2.invariant c.in_ok-push_certified.ensures
    (ap (certified_text p) c.new.ensures)
