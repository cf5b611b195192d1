use Rattle.ordup_log.proofs.SpanLemmas.{span-longer}
use Rattle.ordup_log.proofs.laws.longer_histories_keep_spans.Goals as goal

pub returns : goal.returns
returns c = span-longer
