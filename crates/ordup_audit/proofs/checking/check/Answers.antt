-- The first promise says what the verdict is: the first reason, or else the number of rounds.
-- The laws of verdicts make the other three of it.
use Rattle.std.proofs.Common.{length, rules, ap}
use Rattle.ordup_audit.specs.Verdicts.{IsVerdict}
use Rattle.ordup_audit.specs.declared.verdict.Verdict.TheVariants.{Fewest, No}
use Rattle.ordup_audit.proofs.VerdictLemmas.{verdict-fewest, verdict-valid, verdict-no_fewer}
use Rattle.ordup_audit.proofs.checking.check.Goals as goal

pub returns-in-Some-clause-valid : goal.returns-in-Some-clause-valid
returns-in-Some-clause-valid g c =
    let r = c.args.audited.now in
    let verdict : IsVerdict r (No c.in-Some.row c.in-Some.reason) = search rules in
    verdict-valid r c.keeps.ensures (No c.in-Some.row c.in-Some.reason) verdict

pub returns-in-None-clause-fewest : goal.returns-in-None-clause-fewest
returns-in-None-clause-fewest g c =
    let r = c.args.audited.now in
    let fewest = verdict-fewest r c.keeps.ensures (Fewest (length r.rounds)) c.in-None.ensures.none in
    (fewest.0, ap length c.rounds.ensures)

pub returns-in-None-clause-no_fewer : goal.returns-in-None-clause-no_fewer
returns-in-None-clause-no_fewer g c =
    let r = c.args.audited.now in
    rw c.rounds.ensures (verdict-no_fewer r c.keeps.ensures (Fewest (length r.rounds)) c.in-None.ensures.none)
