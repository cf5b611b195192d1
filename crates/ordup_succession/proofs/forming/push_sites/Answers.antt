use Rattle.std.proofs.Common.{◌∙◌, ◌++◌, [], ap, arith, List, ℕ}
use Rattle.std.specs.Prelude.{codes}
use Rattle.ordup_objects.proofs.SameLemmas.{first-at}
use Rattle.ordup_succession.specs.DeclaringLines.{site_words}
use Rattle.ordup_succession.proofs.FormLemmas.{formed_next, numbered_line}
use Rattle.ordup_succession.proofs.forming.push_sites.Goals as goal

pub loop-index-preserved : goal.loop-index-preserved
loop-index-preserved g c =
    let index = c.loop-index.index in
    let sites = c.args.setup.now.sites in
    let none : List ℕ × ℕ = ([], 0) in
    let name = first-at sites index none c.site_name.result.now (omega arith) (rw c.new-site.ensures at c.site_name.ensures) in
    let capacity = rw c.new-site.ensures at c.capacity.ensures.capacity in
    let line = rw (c.as_bytes-name.ensures.bytes, name, capacity) at c.in_ok-push_numbered.ensures in
    formed_next site_words sites index none c.loop-index.out.text _ _ (omega arith)
    (line ∙ ap (λ t. c.loop-index.out.text ++ t) (numbered_line (codes "site") _ _)) c.loop-index.invariant
