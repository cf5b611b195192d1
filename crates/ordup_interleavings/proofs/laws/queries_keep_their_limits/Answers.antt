use Rattle.ordup_interleavings.proofs.QueryLemmas.{queries-keep-their-limits}
use Rattle.ordup_interleavings.proofs.laws.queries_keep_their_limits.Goals as goal

pub returns : goal.returns
returns c = queries-keep-their-limits
