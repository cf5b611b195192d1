use Rattle.std.proofs.Common.{◌≡◌, ◌∙◌, arith, rules, length-set, to_z, of_z, w64}
use Rattle.std.proofs.lemmas.Grind.{common_steps}
use Rattle.std.proofs.lemmas.Int.{to_z-of_z}
use Rattle.ordup_objects.proofs.TableLemmas.{names-with_entry, begun-more}
use Rattle.ordup_objects.proofs.object_table.begin_at.Goals as goal

pub loop-index-preserved : goal.loop-index-preserved
loop-index-preserved g c =
    let so_far = c.loop-index.invariant in
    let kept : to_z w64 (of_z w64 c.get.result) ≡ c.get.result = grind (arith, common_steps, to_z-of_z) in
    rw (c.replace.ensures.replaced, kept) (record {
      count = length-set _ _ _ ∙ so_far.count;
      names = names-with_entry _ _ _ ∙ so_far.names;
      values = begun-more c.loop-index.objects c.args.values.now c.loop-index.index c.get.result (search rules) (search rules) (search rules) so_far.values;
    })
