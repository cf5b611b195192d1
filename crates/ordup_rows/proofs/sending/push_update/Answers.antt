use Rattle.std.proofs.Common.{◌≡◌, ◌∙◌, ◌+◌, ◌-◌, ap, arith, get_or, []}
use Rattle.ordup_rows.proofs.sending.push_update.Goals as goal

pub returns : goal.returns
returns g c =
    let index = c.args.index in
    let sets = c.args.audited.now.sets in
    let at : index + 1 - 1 ≡ index = omega arith in
    let changes : c.changes-changes.result.now ≡ get_or sets index [] = c.changes-changes.ensures.changes ∙ c.set.ensures
    ∙ ap (λ i. get_or sets i []) at in
    rw (c.objects.ensures, changes) at c.push_set.ensures
