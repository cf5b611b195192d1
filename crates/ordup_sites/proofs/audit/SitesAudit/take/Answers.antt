-- A record alone is judged as the check does; one that is not the same as the longest is not the same as all, and else is the same as each.
use Rattle.std.proofs.Common.{◌+◌, ap, arith, length, subst}
use Rattle.std.proofs.lemmas.List.{length_push}
use Rattle.std.proofs.lemmas.List.Elements.{All-push}
use Rattle.ordup_audit.specs.Verdicts.{NoFewerRounds}
use Rattle.ordup_series.proofs.AuditLemmas.{rounds_of-push}
use Rattle.ordup_sites.proofs.SitesLemmas.{differs-first, longest-push, valid-push}
use Rattle.ordup_sites.proofs.audit.SitesAudit.take.Goals as goal

pub returns-in-Some : goal.returns-in-Some
returns-in-Some g c = record {
  verdict = λ done has. (
    (
      ap (λ n. n + 1) has.records,
      c.in-Fewest.ensures.fewest.0,
      differs-first done c.args.audited c.args.self.now.longest c.in-Some.row has.valid.1 has.longest
          (λ none. let nothing = c.in-Some.ensures.first none in absurd cc) c.in-Some.ensures.some,
    ),
    tt,
  );
}

pub returns-in_default : goal.returns-in_default
returns-in_default g c = record {
  verdict = λ done has.
      let x = c.args.audited in
      let (valid, count) = c.in-Fewest.ensures.fewest in
      let all = valid-push done x c.args.self.now.longest has.valid has.longest c.in_default.ensures.none valid in
      let fewest = All-push (λ r. NoFewerRounds r (length r.rounds)) done x has.fewest (subst (NoFewerRounds x) count c.in-Fewest.ensures.no_fewer) in (
        (all, fewest, omega (arith, has.rounds, count, rounds_of-push done x, c.keep_longer.ensures.counts.1)),
        record {
          valid = all;
          fewest = fewest;
          longest = rw c.keep_longer.ensures.longest (longest-push done x c.args.self.now.longest has.longest);
          records = omega (arith, has.records, length_push done x);
          rounds = omega (arith, has.rounds, count, rounds_of-push done x, c.keep_longer.ensures.counts.1);
        },
      );
}
