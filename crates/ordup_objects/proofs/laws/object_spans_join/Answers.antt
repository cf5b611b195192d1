use Rattle.ordup_objects.proofs.JoinLemmas.{object_spans_join}
use Rattle.ordup_objects.proofs.laws.object_spans_join.Goals as goal

pub returns : goal.returns
returns c = object_spans_join
