-- A value that does not fit is taken as the nearest that does, which is out of range too.
-- So the call is refused for the reason that the declaration has, or for want of memory.
use Rattle.std.proofs.Common.{rules, w64}
use Rattle.std.proofs.lemmas.Int.{to_z-of_z}
use Rattle.std.proofs.lemmas.Result.{err_from_is_err_and}
use Rattle.ordup_objects.specs.Tables.{object_refusal}
use Rattle.ordup_primary.specs.Declarations.{with_object}
use Rattle.ordup_answers.proofs.RefusalLemmas.{refused_by_call}
use Rattle.ordup_answers.proofs.NearestNumberLemmas.{in_range-nearest}
use Rattle.ordup_answers.proofs.declaring.declare_object.Goals as goal

pub returns-in_err-object : goal.returns-in_err-object
returns-in_err-object g c =
    let failed = err_from_is_err_and c.from_residual.result c.from_residual.ensures.1 in
    let d = c.args.setup.now in
    let o = object_refusal d.objects c.args.name.now c.args.initial in
    let value = to_z-of_z w64 c.value.result (search rules) in
    let near = in_range-nearest c.args.initial in
    let refused = rw (c.as_bytes.ensures, value, c.value.ensures.nearest, near) at c.in_err-object.ensures.refused in
    rw (failed.1, failed.2) (
      refused_by_call o (with_object d c.args.name.now c.args.initial) c.in_err-object.field-0.0 refused,
      c.in_err-object.ensures.err,
    )
