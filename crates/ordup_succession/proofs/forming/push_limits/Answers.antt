-- The lines of one site follow those of the sites before it, with the name and the limits that the setup has at its index.
use Rattle.std.proofs.Common.{◌∙◌, ◌++◌, [], ap, arith, get_or, List, map, ℕ}
use Rattle.ordup_objects.specs.Tables.{Objects}
use Rattle.ordup_log.specs.Groups.{GroupList}
use Rattle.ordup_limits.specs.Entries.{Entries, latest}
use Rattle.ordup_objects.proofs.SameLemmas.{first-at}
use Rattle.ordup_succession.specs.DeclaringLines.{limit_words}
use Rattle.ordup_succession.specs.Lines.{lines_text}
use Rattle.ordup_succession.proofs.FormLemmas.{limit_lines_next}
use Rattle.ordup_succession.proofs.forming.push_limits.Goals as goal

pub loop-index-preserved : goal.loop-index-preserved
loop-index-preserved g c =
    let d = c.args.setup.now in
    let index = c.loop-index.index in
    let none : List ℕ × ℕ = ([], 0) in
    let text : Objects → GroupList → List ℕ → Entries → List ℕ = λ objects groups site entries.
    c.loop-index.out.text ++ lines_text (map (limit_words objects groups site) (latest entries)) in
    let name = first-at d.sites index none c.site_name.result.now (omega arith) (rw c.new-site.ensures at c.site_name.ensures) in
    let limits = rw c.new-site.ensures at c.limits.ensures.limits in
    let line = c.in_ok-push_limits_of.ensures
    ∙ ap (λ o. text o c.groups.result.now c.site_name.result.now c.limits.result.now) c.objects.ensures
    ∙ ap (λ gs. text d.objects gs c.site_name.result.now c.limits.result.now) c.groups.ensures.groups
    ∙ ap (λ s. text d.objects d.groups s c.limits.result.now) name
    ∙ ap (text d.objects d.groups (get_or d.sites index none).0) limits in
    limit_lines_next d.objects d.groups d.sites d.limits index none c.loop-index.out.text _ _ (omega arith)
    (omega (arith, c.sites-index-end.ensures.limits)) line c.loop-index.invariant
