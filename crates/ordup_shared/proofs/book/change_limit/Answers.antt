use Rattle.ordup_shared.proofs.StatusLemmas.{relimit_allowed, relimit_refused}
use Rattle.ordup_shared.proofs.book.change_limit.Goals as goal

pub returns-in-Ok-clause-allowed : goal.returns-in-Ok-clause-allowed
returns-in-Ok-clause-allowed c =
    relimit_allowed c.args.book.now.primary c.args.site c.args.kind c.args.id c.args.amount _
    (rw (← c.primary.ensures.primary) c.in_ok-scope.ensures.allowed) c.in_ok-scope.ensures.scope (rw (← c.new.ensures) c.in-Ok.ensures.allowed)

pub returns-in-Err-clause-refused : goal.returns-in-Err-clause-refused
returns-in-Err-clause-refused c =
    relimit_refused c.args.book.now.primary c.args.site c.args.kind c.args.id c.args.amount _ c.in-Err.refusal
    (rw (← c.primary.ensures.primary) c.in_ok-scope.ensures.allowed) c.in_ok-scope.ensures.scope (rw (← c.new.ensures) c.in-Err.ensures.refused)
