use Rattle.ordup_interleavings.proofs.SessionLemmas.{sessions-read-their-writes}
use Rattle.ordup_interleavings.proofs.laws.sessions_read_their_writes.Goals as goal

pub returns : goal.returns
returns c = sessions-read-their-writes
