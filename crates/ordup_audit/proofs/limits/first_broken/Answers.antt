-- The cursors give what had been reported at a place and what was waited for by then, so the tested span begins at the
-- place's base. All places before it keep the limits.
use Rattle.ordup_audit.proofs.Common.{◌+◌, ◌<◌, ◌∙◌, ◌≡◌, All-map, ap, arith, length, length-map, not}
use Rattle.ordup_audit.specs.Cursors.{AreUpto}
use Rattle.ordup_audit.specs.declared.report_change.ReportChange.{ReportChange}
use Rattle.ordup_audit.specs.Passing.{is_place_within}
use Rattle.ordup_audit.proofs.CursorLemmas.{places_of, upto-none}
use Rattle.ordup_audit.proofs.LegalityLemmas.{passes-more}
use Rattle.ordup_audit.proofs.PassingLemmas.{place-tested}
use Rattle.ordup_audit.proofs.limits.first_broken.Goals as goal

pub loop-updates-init : goal.loop-updates-init
loop-updates-init g c =
    let r = c.args.audited.now in
    let sound = c.decided-updates-end.ensures.sound in
    record {
      reports = upto-none (places_of r.reports)
          (All-map (λ k. 0 < k) (λ (c : ReportChange). c.place) r.reports (λ i d lt. (sound.reports.each i d lt).0));
      rounds = upto-none r.rounds (λ i d lt. (sound.rounds.each i d lt).0);
      within = λ k lt. absurd (omega arith);
    }

pub pass_reports-reports_passed-requires : goal.pass_reports-reports_passed-requires
pass_reports-reports_passed-requires g c = record {
  some = omega arith;
  ascending = rw c.reports.ensures c.decided-updates-end.ensures.sound.reports.places;
  before = λ k next. (
      let same : k ≡ c.loop-updates.updates = omega arith in
      rw (same, c.reports.ensures) c.loop-updates.invariant.reports);
}

pub pass_rounds-rounds_passed-requires : goal.pass_rounds-rounds_passed-requires
pass_rounds-rounds_passed-requires g c = record {
  some = omega arith;
  ascending = rw c.rounds.ensures c.decided-updates-end.ensures.sound.rounds.ascending;
  before = λ k next. (
      let same : k ≡ c.loop-updates.updates = omega arith in
      rw (same, c.rounds.ensures) c.loop-updates.invariant.rounds);
}

pub reported-reported-requires : goal.reported-reported-requires
reported-reported-requires g c =
    let changes = c.reports.result.now in
    let few = c.pass_reports-reports_passed.ensures.few in
    omega (
      arith,
      few,
      length-map changes (λ (c : ReportChange). c.place),
      ap length c.reports.ensures,
      ap length c.reports-in-loop-updates.ensures,
    )

pub awaited-requires : goal.awaited-requires
awaited-requires g c =
    let few = c.pass_rounds-rounds_passed.ensures.few in
    record {
      passed = omega (arith, few, ap length c.rounds.ensures, ap length c.rounds-in-loop-updates.ensures);
      ascending = rw c.rounds-in-loop-updates.ensures c.decided-updates-end.ensures.sound.rounds.ascending;
    }

pub passes_a_limit-requires : goal.passes_a_limit-requires
passes_a_limit-requires g c = record {
  legal = c.requires.legal;
  last = omega (arith, c.decided-updates-end.ensures.decided);
  starts = c.requires.starts;
}

pub change_row-requires : goal.change_row-requires
change_row-requires g c = record { updates = omega (arith, c.decided-updates-end.ensures.decided); index = omega arith }

pub returns-then-passes_a_limit-clause-some : goal.returns-then-passes_a_limit-clause-some
returns-then-passes_a_limit-clause-some g c =
    let r = c.args.audited.now in
    let reports : AreUpto (c.loop-updates.updates + 1) (places_of r.reports) c.pass_reports-reports_passed.result =
    rw c.reports.ensures at c.pass_reports-reports_passed.ensures in
    let rounds : AreUpto (c.loop-updates.updates + 1) r.rounds c.pass_rounds-rounds_passed.result =
    rw c.rounds.ensures at c.pass_rounds-rounds_passed.ensures in
    let tested = place-tested r c.loop-updates.updates _ _ _ _ _ _ _ _ c.reports-in-loop-updates.ensures c.rounds-in-loop-updates.ensures
    reports rounds c.reported-reported.ensures c.awaited.ensures c.max-base.ensures c.passes_a_limit.ensures in (
      c.loop-updates.updates,
      record {
        there = omega arith;
        fails = tested ∙ ap not c.if-passes_a_limit.true;
        before = c.loop-updates.invariant.within;
      },
      c.change_row.ensures,
    )

pub loop-updates-preserved : goal.loop-updates-preserved
loop-updates-preserved g c =
    let r = c.args.audited.now in
    let reports : AreUpto (c.loop-updates.updates + 1) (places_of r.reports) c.pass_reports-reports_passed.result =
    rw c.reports.ensures at c.pass_reports-reports_passed.ensures in
    let rounds : AreUpto (c.loop-updates.updates + 1) r.rounds c.pass_rounds-rounds_passed.result =
    rw c.rounds.ensures at c.pass_rounds-rounds_passed.ensures in
    let tested = place-tested r c.loop-updates.updates _ _ _ _ _ _ _ _ c.reports-in-loop-updates.ensures c.rounds-in-loop-updates.ensures
    reports rounds c.reported-reported.ensures c.awaited.ensures c.max-base.ensures c.passes_a_limit.ensures in
    record {
      reports = reports;
      rounds = rounds;
      within = passes-more (is_place_within r) c.loop-updates.updates c.loop-updates.invariant.within
          (tested ∙ ap not c.if-passes_a_limit.false);
    }

pub returns : goal.returns
returns g c = record {
  none = λ k lt. c.loop-updates.invariant.within k (omega (arith, c.decided-updates-end.ensures.decided));
  some = tt;
}
