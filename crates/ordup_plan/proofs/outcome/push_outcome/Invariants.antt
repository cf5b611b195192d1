use Rattle.std.proofs.Common.{◌≡◌, ◌++◌, slice_get}
use Rattle.ordup_plan.specs.Outcomes.{certified_text, text_of_site, texts_below}
use Rattle.ordup_plan.proofs.outcome.push_outcome.Given as goal

-- the sites so far are shown
abbrev pub invariant-loop-index : goal.invariant-loop-index
invariant-loop-index l =
    l.out.text ≡ l.initial.out.text ++ texts_below (λ s. text_of_site l.primary s (slice_get l.closed.sites s)) l.index

-- the sites so far are certified
abbrev pub invariant-loop-index-2 : goal.invariant-loop-index-2
invariant-loop-index-2 l = l.out.text ≡ l.initial.out.text ++ texts_below (certified_text l.primary) l.index
