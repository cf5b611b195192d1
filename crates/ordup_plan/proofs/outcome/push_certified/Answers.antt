use Rattle.std.proofs.Common.{◌∙◌, ap, refl}
use Rattle.std.proofs.lemmas.Result.{on_ok_weaker}
use Rattle.ordup_plan.specs.Outcomes.{name_of}
use Rattle.ordup_plan.proofs.OutcomeLemmas.{name_at}
use Rattle.ordup_plan.proofs.outcome.push_certified.Goals as goal

pub returns : goal.returns
returns c =
    let named = name_at c.setup.result.now.sites c.args.site c.site_name.result.now c.site_name.ensures in
    let name = c.as_bytes.ensures.bytes ∙ named ∙ ap (λ d. name_of d.sites c.args.site) c.setup.ensures in
    on_ok_weaker c.push_numbered.result (λ h. h ∙ rw (name, c.rounds.ensures) refl) c.push_numbered.ensures
