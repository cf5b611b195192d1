use Rattle.std.proofs.Common.{◌≡◌, ◌∙◌, ◌++◌, ◌∷◌, [], ap, arith, get_or, List, ℕ}
use Rattle.ordup_objects.proofs.SameLemmas.{first-at}
use Rattle.ordup_succession.specs.DeclaringLines.{group_words}
use Rattle.ordup_succession.specs.Lines.{lines_text}
use Rattle.ordup_succession.proofs.FormLemmas.{formed_next}
use Rattle.ordup_succession.proofs.forming.push_groups.Goals as goal

pub loop-index-preserved : goal.loop-index-preserved
loop-index-preserved g c =
    let index = c.loop-index.index in
    let groups = c.args.groups.now in
    let none : List ℕ × List ℕ = ([], []) in
    let members = rw c.new-group.ensures at c.members.ensures.members in
    let group : List ℕ × List ℕ = get_or groups index none in
    let name = first-at groups index none c.name.result.now (omega arith) (rw c.new-group.ensures at c.name.ensures) in
    let same : (let h : List ℕ × List ℕ = (c.name.result.now, c.members.result.now) in h ≡ group) =
    ap (λ n. (n, c.members.result.now)) name ∙ ap (λ m. (group.0, m)) members in
    formed_next (group_words c.args.objects.now) groups index none c.loop-index.out.text _ _ (omega arith)
    (c.in_ok-push_group.ensures ∙ ap (λ (h : List ℕ × List ℕ). c.loop-index.out.text ++ lines_text (group_words c.args.objects.now h ∷ [])) same) c.loop-index.invariant
