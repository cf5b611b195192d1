use Rattle.ordup_objects.proofs.SpanLemmas.{object_span-longer}
use Rattle.ordup_objects.proofs.laws.longer_histories_keep_object_spans.Goals as goal

pub returns : goal.returns
returns c = object_span-longer
