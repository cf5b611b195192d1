use Rattle.ordup_rounds.proofs.WindowLemmas.{each_window_has_a_round}
use Rattle.ordup_rounds.proofs.laws.each_window_has_a_round.Goals as goal

pub returns : goal.returns
returns c = each_window_has_a_round
