-- The span of the ledger gains the update at its end, then the limits get those that begin, then its start moves to what the
-- site has reported, which never falls.
use Rattle.ordup_audit.proofs.Common.{◌+◌, ◌∙◌, ap, arith}
use Rattle.std.specs.Prelude.{min}
use Rattle.ordup_lag.proofs.LagLemmas.{report_at-rises}
use Rattle.ordup_lag.proofs.writing.advance.Goals as goal

pub reported-requires-clause-forward : goal.reported-requires-clause-forward
reported-requires-clause-forward g c =
    let r = c.args.audited.now in
    let rises = report_at-rises r.reports c.args.updates c.keeps.ensures.reports.rising in
    omega (
      arith,
      rises,
      c.requires.stands.from,
      c.extend.ensures.places.0,
      c.begin_limits-count.ensures.places.0,
      c.reported_at.ensures,
      c.min.ensures,
    )

pub returns-clause-begun : goal.returns-clause-begun
returns-clause-begun g c = rw (c.entries-entries.ensures ∙ c.limits-2.ensures) at c.begin_limits-count.ensures.begun

pub returns-clause-stands : goal.returns-clause-stands
returns-clause-stands g c =
    let r = c.args.audited.now in
    let limits = rw (c.entries-entries.ensures ∙ c.limits-2.ensures) at c.begin_limits-count.ensures.limits in
    let place = c.reported.ensures.places in
    record {
      same = c.reported.ensures.limits ∙ limits;
      from = place.0 ∙ c.min.ensures ∙ ap (λ n. min n (c.args.updates + 1)) c.reported_at.ensures;
      to = place.1 ∙ c.begin_limits-count.ensures.places.1 ∙ c.extend.ensures.places.1;
      stands = rw (c.log-log.ensures.whole c.requires.valid.legal, c.groups-groups.ensures) at c.reported.ensures.stands;
    }
