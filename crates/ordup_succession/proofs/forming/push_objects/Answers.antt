use Rattle.std.proofs.Common.{[], arith, pos}
use Rattle.ordup_succession.specs.DeclaringLines.{object_words}
use Rattle.ordup_succession.proofs.FormLemmas.{formed_next}
use Rattle.ordup_succession.proofs.forming.push_objects.Goals as goal

pub loop-index-preserved : goal.loop-index-preserved
loop-index-preserved g c =
    formed_next object_words c.args.objects.now c.loop-index.index ([], pos 0) c.loop-index.out.text _ _ (omega arith)
    (rw c.new.ensures at (c.in_ok-push_object.ensures ([], pos 0))) c.loop-index.invariant
