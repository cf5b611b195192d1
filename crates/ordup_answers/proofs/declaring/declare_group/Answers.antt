use Rattle.std.proofs.Common.{◌≡◌, rules, length}
use Rattle.std.proofs.lemmas.Result.{err_from_is_err_and}
use Rattle.ordup_log.specs.Groups.{group_refusal}
use Rattle.ordup_primary.specs.Declarations.{with_group}
use Rattle.ordup_answers.specs.Names.{indices_among}
use Rattle.ordup_answers.proofs.RefusalLemmas.{refused_by_call}
use Rattle.ordup_answers.proofs.declaring.declare_group.Goals as goal

pub returns-in_err-group : goal.returns-in_err-group
returns-in_err-group g c =
    let failed = err_from_is_err_and c.from_residual.result c.from_residual.ensures.1 in
    let d = c.args.setup.now in
    let members = indices_among d.objects c.args.members.now in
    let found : c.deref.result.now ≡ members = search rules in
    let o = group_refusal (length d.objects) d.groups c.args.name.now members in
    rw (failed.1, failed.2) (
      refused_by_call o (with_group d c.args.name.now members) c.in_err-group.field-0.0
          (rw (c.as_bytes.ensures, found) at c.in_err-group.ensures.refused),
      c.in_err-group.ensures.err,
    )
