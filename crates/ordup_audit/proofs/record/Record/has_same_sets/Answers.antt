-- Two lists that have the same length, and the same set at each index, are the same.
-- One set that differs shows that they are not.
use Rattle.ordup_audit.proofs.Common.{◌+◌, ◌-◌, ◌∙◌, [], arith, get_or_default, refl, same_lists, sym}
use Rattle.ordup_objects.proofs.SameLemmas.{not_same-at, same-more}
use Rattle.ordup_audit.proofs.record.Record.has_same_sets.Goals as goal

pub set-requires : goal.set-requires
set-requires g c = record { first = omega arith; last = omega (arith, c.decided-count.ensures.decided) }

pub set-requires-in-loop-index : goal.set-requires-in-loop-index
set-requires-in-loop-index g c = record {
  first = omega arith;
  last = omega (arith, c.decided-count.ensures.decided, c.decided.ensures.decided);
}

pub returns-then-not-is_same_set : goal.returns-then-not-is_same_set
returns-then-not-is_same_set g c =
    not_same-at c.args.self.now.sets c.args.other.now.sets ((c.loop-index.index + 1) - 1) [] c.is_same_set.result
    (λ e. c.is_same_set.ensures.1 (c.set.ensures ∙ e ∙ sym c.set-in-loop-index.ensures)) c.if-not-is_same_set.true

pub loop-index-preserved : goal.loop-index-preserved
loop-index-preserved g c =
    let these = c.args.self.now.sets in
    let those = c.args.other.now.sets in
    let j = (c.loop-index.index + 1) - 1 in
    let same = sym c.set.ensures ∙ c.is_same_set.ensures.0 c.if-not-is_same_set.false ∙ c.set-in-loop-index.ensures in
    same-more these those c.loop-index.index c.loop-index.invariant j (omega arith)
    (λ d. get_or_default these j d [] (omega (arith, c.decided-count.ensures.decided)) ∙ same
    ∙ get_or_default those j [] d (omega (arith, c.decided-count.ensures.decided, c.decided.ensures.decided)))

pub returns : goal.returns
returns g c = (
  λ is. same_lists c.args.self.now.sets c.args.other.now.sets (omega arith) (λ k d lt. c.loop-index.invariant k d (omega arith)),
  λ e. refl,
)
