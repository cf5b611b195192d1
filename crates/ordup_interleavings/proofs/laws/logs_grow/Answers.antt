use Rattle.ordup_interleavings.proofs.SoundLemmas.{logs-grow}
use Rattle.ordup_interleavings.proofs.laws.logs_grow.Goals as goal

pub returns : goal.returns
returns c = logs-grow
