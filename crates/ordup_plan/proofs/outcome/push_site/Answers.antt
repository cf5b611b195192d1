-- The text is pushed piece by piece, and each piece is what the primary or the site has: the name, two numbers, the values.
use Rattle.std.proofs.Common.{◌∙◌, ap, length}
use Rattle.std.specs.Fmt.{decimal}
use Rattle.ordup_primary.specs.Primaries.{progress_at}
use Rattle.ordup_text.specs.Lines.{values_text}
use Rattle.ordup_plan.specs.Outcomes.{name_of}
use Rattle.ordup_plan.proofs.OutcomeLemmas.{name_at, site_parts}
use Rattle.ordup_plan.proofs.outcome.push_site.Goals as goal

pub returns : goal.returns
returns c =
    let p = c.args.primary.now in
    let held = c.args.held.now in
    let named = name_at c.setup.result.now.sites c.args.site c.site_name.result.now c.site_name.ensures in
    let name = c.as_bytes.ensures.bytes ∙ named ∙ ap (λ d. name_of d.sites c.args.site) c.setup.ensures in
    rw (
      c.in_ok-push-3.ensures,
      c.in_ok-push_values.ensures,
      c.in_ok-push_with_number-2.ensures,
      c.in_ok-push_with_number.ensures,
      c.in_ok-push-2.ensures,
      c.in_ok-push.ensures,
      name,
      c.applied.ensures.applied,
      c.rounds.ensures,
      c.objects.ensures ∙ ap (λ d. d.objects) c.setup-2.ensures,
      c.as_slice.ensures ∙ c.values.ensures,
    )
    (site_parts c.args.out.now.text (name_of p.setup.sites c.args.site) (decimal held.applied)
    (decimal (length (progress_at p c.args.site).rounds)) (values_text p.setup.objects held.values))
