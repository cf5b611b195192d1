use Rattle.std.proofs.Common.{arith}
use Rattle.ordup_rows.specs.Rows.{name_at}
use Rattle.ordup_rows.proofs.FormLemmas.{name_at-is}
use Rattle.ordup_succession.proofs.FormLemmas.{spread_next}
use Rattle.ordup_succession.proofs.forming.push_members.Goals as goal

pub loop-object-preserved : goal.loop-object-preserved
loop-object-preserved g c =
    let objects = c.args.objects.now in
    let name = name_at-is objects _ c.name.result.now c.name.ensures in
    spread_next (name_at objects) c.args.members.now c.loop-object.object-index c.object-item.result c.loop-object.out.text _ _ (omega arith)
    (rw (← name, c.object-item.is) at c.in_ok-push_word.ensures) c.loop-object.invariant
