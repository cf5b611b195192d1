use Rattle.std.specs.Prelude.{codes}
use Rattle.ordup_rows.proofs.FormLemmas.{name_at-is}
use Rattle.ordup_succession.proofs.FormLemmas.{scope_formed}
use Rattle.ordup_succession.proofs.forming.push_scope.Goals as goal

pub returns-in_ok-push-in-Object : goal.returns-in_ok-push-in-Object
returns-in_ok-push-in-Object g c =
    let name = name_at-is c.args.objects.now c.in-Object.object c.name.result.now c.name.ensures in
    rw (c.in-Object.is, name)
    (scope_formed c.push_word.result c.args.out.now.text _ _ (codes "object") c.name.result.now c.in_ok-push-in-Object.ensures c.push_word.ensures)

pub returns-in_ok-push-in-Group : goal.returns-in_ok-push-in-Group
returns-in_ok-push-in-Group g c =
    let name = name_at-is c.args.groups.now c.in-Group.group c.name-in-Group.result.now c.name-in-Group.ensures in
    rw (c.in-Group.is, name)
    (scope_formed c.push_word-in-Group.result c.args.out.now.text _ _ (codes "group") c.name-in-Group.result.now
    c.in_ok-push-in-Group.ensures c.push_word-in-Group.ensures)
