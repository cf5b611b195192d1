-- The tables are the same so far, and an entry differs in its name or its value; or it is the same too.
use Rattle.std.proofs.Common.{rules, ◌∙◌, ap, of_z, sym, to_z, w64}
use Rattle.std.proofs.lemmas.Int.{to_z-of_z}
use Rattle.ordup_series.proofs.DifferLemmas.{lists-differ, lists-same, name-differs, object-same, value-differs}
use Rattle.ordup_series.proofs.record_end.same_objects.Goals as goal

pub returns-then-ne-clause-differ : goal.returns-then-ne-clause-differ
returns-then-ne-clause-differ g c =
    name-differs c.loop-index.index c.args.mine.now c.args.others.now c.name.result.now c.name-in-loop-index.result.now
    c.loop-index.invariant (rw c.new-object.ensures at c.name.ensures) (rw c.new-object.ensures at c.name-in-loop-index.ensures) (lists-differ c.name.result.now c.name-in-loop-index.result.now c.if-ne.ensures)

pub returns-then-initial-clause-differ : goal.returns-then-initial-clause-differ
returns-then-initial-clause-differ g c =
    value-differs c.loop-index.index c.args.mine.now c.args.others.now c.name.result.now c.name-in-loop-index.result.now
    c.loop-index.invariant (rw c.new-object.ensures at c.name.ensures) (rw c.new-object.ensures at c.name-in-loop-index.ensures) (λ e. c.if-initial.true (ap (of_z w64) (rw c.new-object.ensures at c.initial.ensures ∙ (e ∙ sym (rw c.new-object.ensures at c.initial-in-loop-index.ensures)))))

pub loop-index-preserved : goal.loop-index-preserved
loop-index-preserved g c =
    let mine = to_z-of_z w64 c.initial.result (search rules) in
    let theirs = to_z-of_z w64 c.initial-in-loop-index.result (search rules) in
    let same = sym mine ∙ (ap (to_z w64) c.if-initial.false ∙ theirs) in
    let value = sym (rw c.new-object.ensures at c.initial.ensures) ∙ (same ∙ rw c.new-object.ensures at c.initial-in-loop-index.ensures) in
    object-same c.loop-index.index c.args.mine.now c.args.others.now c.name.result.now c.name-in-loop-index.result.now
    c.loop-index.invariant (rw c.new-object.ensures at c.name.ensures) (rw c.new-object.ensures at c.name-in-loop-index.ensures) (lists-same c.name.result.now c.name-in-loop-index.result.now c.if-ne.ensures) value
