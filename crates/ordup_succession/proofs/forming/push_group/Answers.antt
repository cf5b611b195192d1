use Rattle.std.proofs.Common.{◌∷◌, List, map, ℕ}
use Rattle.std.specs.Prelude.{codes}
use Rattle.ordup_rows.specs.Rows.{name_at}
use Rattle.ordup_succession.proofs.FormLemmas.{line_formed, name_formed}
use Rattle.ordup_succession.proofs.forming.push_group.Goals as goal

pub returns : goal.returns
returns g c =
    let named = rw c.as_bytes.ensures.bytes at c.in_ok-push-2.ensures in
    let names : List (List ℕ) = map (name_at c.args.objects.now) c.args.members.now in
    line_formed c.push-3.result c.args.out.now.text _ _ (codes "group") (c.args.name.now ∷ names)
    (name_formed c.args.out.now.text _ _ _ (codes "group") c.args.name.now names c.in_ok-push.ensures named c.in_ok-push_members.ensures) c.push-3.ensures
