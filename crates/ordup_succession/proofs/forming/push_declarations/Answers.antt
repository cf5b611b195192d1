use Rattle.std.proofs.Common.{◌∙◌, ◌++◌, ◌∷◌, [], ap, map}
use Rattle.std.specs.Prelude.{codes}
use Rattle.ordup_objects.specs.Tables.{Objects}
use Rattle.ordup_log.specs.Groups.{GroupList}
use Rattle.ordup_succession.specs.DeclaringLines.{limit_lines, object_lines, site_words}
use Rattle.ordup_succession.specs.Lines.{lines_text}
use Rattle.ordup_succession.proofs.FormLemmas.{all_formed}
use Rattle.ordup_succession.proofs.forming.push_declarations.Goals as goal

pub returns : goal.returns
returns g c =
    let d = c.args.setup.now in
    let first = c.in_ok-push_object_declarations.ensures
    ∙ ap (λ (o : Objects). c.args.out.now.text ++ lines_text (object_lines o c.groups.result.now)) c.objects.ensures
    ∙ ap (λ (gs : GroupList). c.args.out.now.text ++ lines_text (object_lines d.objects gs)) c.groups.ensures.groups in
    all_formed c.push.result c.args.out.now.text _ _ _ _ (object_lines d.objects d.groups) (map site_words d.sites)
    (limit_lines d.objects d.groups d.sites d.limits) ((codes "start" ∷ []) ∷ []) first c.in_ok-push_sites.ensures
    c.in_ok-push_limits.ensures c.push.ensures
