-- After each record the audit has taken it, or there is a reason against it; after the last all are valid and the same.
use Rattle.ordup_audit.proofs.Common.{◌++◌, ◌+◌, ◌∙◌, ◌∷◌, [], ap, length_push, sym}
use Rattle.ordup_check.specs.declared.sizes.TheConstants.{MOST_SERIES_BYTES}
use Rattle.ordup_series.proofs.AuditLemmas.{fewest-yes}
use Rattle.ordup_check.proofs.JudgingLemmas.{judged-no-sites, malformed-of}
use Rattle.ordup_check.proofs.sites.audit_each.Goals as goal

pub returns-in-Ok-None-clause-verdict : goal.returns-in-Ok-None-clause-verdict
returns-in-Ok-None-clause-verdict g c text h =
    let (plain, done, has, counted, read) = c.loop-count.invariant in
    let (some, short, told) = rw c.in-Ok-None.field-0-is at c.in-Ok-None.ensures.next MOST_SERIES_BYTES text done (read text h) in
    (done, some, short, told, has.valid, has.fewest, c.rounds.ensures.rounds ∙ has.rounds)

pub returns-in-Err-clause-malformed : goal.returns-in-Err-clause-malformed
returns-in-Err-clause-malformed g c place row e text h =
    let (plain, done, has, counted, read) = c.loop-count.invariant in
    let (is, at) = malformed-of c.in-Err.fault (c.loop-count.count + 1) place row (sym c.series_fault.ensures ∙ e) in
    let told = c.in-Err.ensures.next MOST_SERIES_BYTES text done (read text h) in
    (done, has.valid, at ∙ ap (λ k. k + 1) (sym counted), rw is at told)

pub returns-then-not-is_yes-clause-verdict : goal.returns-then-not-is_yes-clause-verdict
returns-then-not-is_yes-clause-verdict g c text h =
    let (plain, done, has, counted, read) = c.loop-count.invariant in
    let told = rw c.in-Ok-Some.field-0-is at c.in-Ok-Some.ensures.next MOST_SERIES_BYTES text done (read text h) in
    judged-no-sites text done c.in-Ok-Some.record _ told.1 has.valid (c.take-verdict.ensures.verdict done has).0
    (sym c.is_yes.ensures ∙ c.if-not-is_yes.true)

pub loop-count-preserved : goal.loop-count-preserved
loop-count-preserved g c =
    let (plain, done, has, counted, read) = c.loop-count.invariant in
    let r = c.in-Ok-Some.record in
    let (n, next) = fewest-yes _ _ (c.take-verdict.ensures.verdict done has).1 (sym c.is_yes.ensures ∙ c.if-not-is_yes.false) in (
      c.in-Ok-Some.ensures.plain,
      done ++ r ∷ [],
      next,
      length_push done r ∙ ap (λ k. k + 1) counted,
      λ text h. (rw c.in-Ok-Some.field-0-is at c.in-Ok-Some.ensures.next MOST_SERIES_BYTES text done (read text h)).0,
    )
