use Rattle.ordup_interleavings.proofs.CallLemmas.{calls-make-holds}
use Rattle.ordup_interleavings.proofs.laws.calls_make_holds.Goals as goal

pub returns : goal.returns
returns c = calls-make-holds
