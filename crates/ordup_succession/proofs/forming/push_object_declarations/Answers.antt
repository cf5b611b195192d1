use Rattle.std.proofs.Common.{map}
use Rattle.ordup_succession.specs.DeclaringLines.{group_words, object_words}
use Rattle.ordup_succession.proofs.FormLemmas.{lines_formed}
use Rattle.ordup_succession.proofs.forming.push_object_declarations.Goals as goal

pub returns : goal.returns
returns g c =
    lines_formed c.push_groups.result c.args.out.now.text _ _ (map object_words c.args.objects.now)
    (map (group_words c.args.objects.now) c.args.groups.now) c.in_ok-push_objects.ensures c.push_groups.ensures
