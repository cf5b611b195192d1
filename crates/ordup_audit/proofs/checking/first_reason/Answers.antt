use Rattle.ordup_audit.proofs.VerdictLemmas.{legal-history}
use Rattle.ordup_audit.proofs.checking.first_reason.Goals as goal

pub returns-in-Some : goal.returns-in-Some
returns-in-Some g c = record { none = tt; some = c.in-Some.ensures.some }

pub of-starts-requires : goal.of-starts-requires
of-starts-requires g c = legal-history c.args.audited.now c.keeps.ensures c.in_default.ensures.none

pub first_reason_by-found-requires : goal.first_reason_by-found-requires
first_reason_by-found-requires g c = record { legal = c.in_default.ensures.none; starts = c.of-starts.ensures }

pub returns : goal.returns
returns g c = record { none = c.first_reason_by-found.ensures.none; some = c.first_reason_by-found.ensures.some }
