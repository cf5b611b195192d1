use Rattle.ordup_objects.proofs.SpanLemmas.{AreMarks-longer}
use Rattle.ordup_objects.proofs.laws.longer_histories_keep_marks.Goals as goal

pub returns : goal.returns
returns c = AreMarks-longer
