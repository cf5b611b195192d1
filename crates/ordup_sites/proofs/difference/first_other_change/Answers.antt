-- The updates so far are the same, and one differs in a change; or it is the same too.
use Rattle.std.proofs.Common.{rules, ◌≡◌, ◌∙◌, ◌+◌, ◌-◌, [], ap, arith, get_or, sym}
use Rattle.std.proofs.lemmas.List.{take_more_same}
use Rattle.ordup_objects.specs.declared.change.Change.{Change}
use Rattle.ordup_sites.proofs.SitesLemmas.{alike, others}
use Rattle.ordup_sites.proofs.difference.first_other_change.Goals as goal

pub same_changes-requires-clause-differ : goal.same_changes-requires-clause-differ
same_changes-requires-clause-differ g c =
    others {X = Change} _ (λ a b. search rules) c.changes-these.result.now c.changes-those.result.now c.if-ne.ensures

pub loop-index-preserved : goal.loop-index-preserved
loop-index-preserved g c =
    let xs = c.args.other.now.sets in
    let ys = c.args.audited.now.sets in
    let at : (c.loop-index.index + 1) - 1 ≡ c.loop-index.index = omega arith in
    let same = alike {X = Change} _ (λ a b. search rules) c.changes-these.result.now c.changes-those.result.now c.if-ne.ensures in
    let mine = c.changes-these.ensures.changes ∙ (c.set.ensures ∙ ap (λ k. get_or xs k []) at) in
    let theirs = c.changes-those.ensures.changes ∙ (c.set-in-loop-index.ensures ∙ ap (λ k. get_or ys k []) at) in
    take_more_same xs ys c.loop-index.index [] (omega arith) (omega arith) c.loop-index.invariant (sym mine ∙ (same ∙ theirs))
