use Rattle.ordup_audit.proofs.Common.{◌≡◌, ◌+◌, ◌-◌, ◌∙◌, arith, false, history_of, in_force, is_within, sym}
use Rattle.std.proofs.lemmas.Bool.{not-false, not-true}
use Rattle.ordup_audit.proofs.LeastStartLemmas.{passes-later}
use Rattle.ordup_audit.proofs.least_starts.starts_earlier.Goals as goal

pub returns-then-start-eq0 : goal.returns-then-start-eq0
returns-then-start-eq0 g c = λ has is k lt. absurd (omega (arith, c.if-start-eq0.true))

pub returns : goal.returns
returns g c = λ has is.
    (let r = c.args.audited.now in
    let place = c.args.place in
    let there : c.args.start - 1 + 1 ≡ c.args.start = omega (arith, c.if-start-eq0.false) in
    let passed : is_within r (c.args.start - 1) place ≡ false = not-true _ (sym c.passes.ensures ∙ not-false _ is) in
    rw there at (passes-later (history_of r) r.groups (in_force r.limits place) (c.args.start - 1) place passed))
