use Rattle.std.proofs.Common.{◌≡◌, ◌∙◌, ap, length, List, subst, sym, ℕ}
use Rattle.std.proofs.lemmas.List.{length-map}
use Rattle.ordup_log.specs.Groups.{AreGroupsKnown, GroupList}
use Rattle.ordup_next.proofs.end.print_objects.Goals as goal

pub print_declared-printed-requires : goal.print_declared-printed-requires
print_declared-printed-requires g c =
    let r = c.args.audited.now in
    let objects = c.in-Ok.objects in
    let count : length objects ≡ length r.objects =
    sym (length-map objects (λ e. e.0)) ∙ ap (λ (l : List (List ℕ)). length l) c.in-Ok.ensures.objects.names ∙ length-map r.objects (λ e. e.0) in
    subst (λ (groups : GroupList). AreGroupsKnown (length objects) groups) (sym c.groups.ensures)
    (subst (λ n. AreGroupsKnown n r.groups) (sym count) c.keeps.ensures.groups.known)
