use Rattle.std.proofs.Common.{length, arith, ap, sym, ◌∙◌}
use Rattle.ordup_audit.specs.Passing.{is_window_over}
use Rattle.ordup_audit.proofs.LegalityLemmas.{passes-more}
use Rattle.ordup_audit.proofs.windows.first_light.Goals as goal

pub loop-index-preserved : goal.loop-index-preserved
loop-index-preserved g c =
    passes-more (is_window_over c.args.audited.now) c.loop-index.index c.loop-index.invariant
    (rw (← c.windows-window-items.ensures) (sym c.passes_a_limit.ensures ∙ c.if-not-passes_a_limit.false))

pub returns-clause-none : goal.returns-clause-none
returns-clause-none g c = λ k lt. c.loop-index.invariant k (omega (arith, ap length c.windows-window-items.ensures))
