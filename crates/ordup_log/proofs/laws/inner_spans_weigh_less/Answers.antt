use Rattle.ordup_log.proofs.SpanLemmas.{span-inner}
use Rattle.ordup_log.proofs.laws.inner_spans_weigh_less.Goals as goal

pub returns : goal.returns
returns c = span-inner
