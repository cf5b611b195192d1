use Rattle.ordup_rounds.proofs.WindowLemmas.{no_fewer_rounds_than_windows}
use Rattle.ordup_rounds.proofs.laws.no_fewer_rounds_than_windows.Goals as goal

pub returns : goal.returns
returns c = no_fewer_rounds_than_windows
