use Rattle.ordup_audit.proofs.LeastStartLemmas.{begins-made}
use Rattle.ordup_audit.proofs.beginning.first_ledger.Goals as goal

pub returns-clause-stands : goal.returns-clause-stands
returns-clause-stands g c =
    begins-made c.args.audited.now c.new-made.result c.keeps.ensures (rw c.new-no_limits.ensures at c.new-made.ensures.limits)
    c.new-made.ensures.places (rw c.new-no_limits.ensures at c.new-made.ensures.stands)
