use Rattle.ordup_objects.proofs.SpanLemmas.{moved}
use Rattle.ordup_objects.proofs.laws.values_move_by_their_weights.Goals as goal

pub returns : goal.returns
returns c = moved
