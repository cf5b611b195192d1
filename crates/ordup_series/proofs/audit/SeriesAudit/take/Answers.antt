-- A record that differs is not next to the last one; and a record alone is judged as the check does.
use Rattle.std.proofs.Common.{◌≡◌, ◌+◌, ◌++◌, ◌∷◌, [], ap, arith}
use Rattle.ordup_series.specs.Audits.{rounds_of}
use Rattle.std.proofs.lemmas.List.{length_push}
use Rattle.ordup_series.proofs.AuditLemmas.{judged-not-next, last_end-push, not-certified, not-empty, not-next, places_of-push, rounds_of-push, series-with, valid-with, whole-certified, whole-fewest}
use Rattle.ordup_series.proofs.audit.SeriesAudit.take.Goals as goal

pub returns-in-Some-clause-verdict : goal.returns-in-Some-clause-verdict
returns-in-Some-clause-verdict g c done has =
    let (other, end, last, differs) = judged-not-next done c.args.audited.now c.args.self.now.end c.in-Some.row has.end
    c.in-Some.ensures.some (λ none. let nothing = c.in-Some.ensures.first none in absurd cc) in
    ((ap (λ n. n + 1) has.records, other, end, last, differs), tt)

pub returns-in-Some-clause-whole : goal.returns-in-Some-clause-whole
returns-in-Some-clause-whole g c done has more are own certified =
    not-next done c.args.audited.now more c.args.self.now.end c.in-Some.row has.end c.in-Some.ensures.some
    (λ none. let nothing = c.in-Some.ensures.first none in absurd cc) are

pub returns-in_ok-end-in-Fewest-clause-verdict : goal.returns-in_ok-end-in-Fewest-clause-verdict
returns-in_ok-end-in-Fewest-clause-verdict g c done has =
    let x = c.args.audited.now in
    let (valid, count) = c.in-Fewest.ensures.fewest in
    let all = valid-with done x c.args.self.now.end has.end c.in_default.ensures.none has.valid valid in
    let rounds : c.args.self.now.rounds + c.in-Fewest.rounds ≡ rounds_of (done ++ x ∷ []) =
    omega (arith, has.rounds, count, rounds_of-push done x) in (
      (all, rounds),
      record {
        valid = all;
        end = rw c.replace.ensures.after (last_end-push done x c.in_ok-end-in-Fewest.end c.in_ok-end-in-Fewest.ensures.end);
        records = omega (arith, has.records, length_push done x);
        places = omega (arith, has.places, c.decided.ensures.decided, places_of-push done x);
        rounds = rounds;
      },
    )

pub returns-in_ok-end-in-Fewest-clause-whole : goal.returns-in_ok-end-in-Fewest-clause-whole
returns-in_ok-end-in-Fewest-clause-whole g c done has =
    let x = c.args.audited.now in
    let (valid, count) = c.in-Fewest.ensures.fewest in
    let all = valid-with done x c.args.self.now.end has.end c.in_default.ensures.none has.valid valid in
    let certified = whole-certified (done ++ x ∷ []) (not-empty done x) all in
    let rounds : c.args.self.now.rounds + c.in-Fewest.rounds ≡ rounds_of (done ++ x ∷ []) =
    omega (arith, has.rounds, count, rounds_of-push done x) in
    (certified, rw rounds (whole-fewest (done ++ x ∷ []) certified))

pub returns-in-No-clause-verdict : goal.returns-in-No-clause-verdict
returns-in-No-clause-verdict g c done has =
    let x = c.args.audited.now in (
      (
        ap (λ n. n + 1) has.records,
        series-with done x c.args.self.now.end has.end c.in_default.ensures.none has.valid.0,
        λ valid. let fewest = c.in-No.ensures.valid valid in absurd cc,
        c.in-No.ensures.verdict,
      ),
      tt,
    )

pub returns-in-No-clause-whole : goal.returns-in-No-clause-whole
returns-in-No-clause-whole g c done has more are own certified =
    not-certified done c.args.audited.now more (λ valid. let fewest = c.in-No.ensures.valid valid in absurd cc) are own certified
