-- A copy has the content of what it was made from, so after three of them the declarations are the lent ones.
use Rattle.ordup_audit.proofs.Common.{◌∙◌, refl}
use Rattle.std.proofs.lemmas.Result.{err_from_is_err_and}
use Rattle.ordup_record.proofs.recording.copy_declared.Goals as goal

pub returns-in_err-parts : goal.returns-in_err-parts
returns-in_err-parts g c =
    let failed = err_from_is_err_and c.from_residual.result c.from_residual.ensures.1 in
    rw (failed.1, failed.2) (record { objects = tt; groups = tt; limits = tt; kept = tt; refused = c.in_err-parts.ensures.refused })

pub returns-in_err-parts-2 : goal.returns-in_err-parts-2
returns-in_err-parts-2 g c =
    let failed = err_from_is_err_and c.from_residual-in_err-parts-2.result c.from_residual-in_err-parts-2.ensures.1 in
    rw (failed.1, failed.2) (record { objects = tt; groups = tt; limits = tt; kept = tt; refused = c.in_err-parts-2.ensures.refused })

pub returns-in_err-parts-3 : goal.returns-in_err-parts-3
returns-in_err-parts-3 g c =
    let failed = err_from_is_err_and c.from_residual-in_err-parts-3.result c.from_residual-in_err-parts-3.ensures.1 in
    rw (failed.1, failed.2) (record { objects = tt; groups = tt; limits = tt; kept = tt; refused = c.in_err-parts-3.ensures.refused })

pub returns : goal.returns
returns g c = record {
  objects = c.in_ok-parts.ensures.copied ∙ c.objects.ensures;
  groups = c.in_ok-parts-2.ensures.copied ∙ c.groups.ensures;
  limits = c.in_ok-parts-3.ensures.copied ∙ c.limits.ensures;
  kept = refl;
  refused = tt;
}
