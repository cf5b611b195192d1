use Rattle.ordup_objects.proofs.SpanLemmas.{moved}
use Rattle.ordup_log.proofs.laws.values_move_by_spans.Goals as goal

pub returns : goal.returns
returns c = λ h groups x a b le. moved h x a b le
