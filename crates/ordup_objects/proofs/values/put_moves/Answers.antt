-- A value in range and the distance of two such values fit into 32 bits.
-- So each move that is pushed is the one of its change.
use Rattle.std.proofs.Common.{◌≡◌, ◌∙◌, ◌++◌, arith, rules, get_or, pos, ap, sym, to_z, of_z, w32, w64, FitsSigned}
use Rattle.std.proofs.lemmas.Grind.{common_steps}
use Rattle.std.proofs.lemmas.Int.{to_z-of_z, ints}
use Rattle.std.proofs.lemmas.List.{append_assoc}
use Rattle.ordup_objects.specs.States.{value_at}
use Rattle.ordup_objects.specs.Weights.{distance}
use Rattle.ordup_objects.proofs.MoveLemmas.{moves_of-more, distance-few, value-few}
use Rattle.ordup_objects.proofs.values.put_moves.Goals as goal

pub overflow_cast-distance : goal.overflow_cast-distance
overflow_cast-distance g c =
    let moved : c.abs_diff-distance.result
    ≡ distance (get_or c.args.results.now c.loop-i.i (pos 0)) (value_at c.args.values.now c.index-changes-i.result.object) =
    grind (arith, common_steps, to_z-of_z) in
    let few = distance-few c.args.values.now c.args.changes.now c.args.results.now c.loop-i.i c.abs_diff-distance.result
    c.index-changes-i.result c.requires.state c.requires.legal (omega arith) c.requires.results c.index-changes-i.is moved in
    omega (arith, few)

pub loop-i-preserved : goal.loop-i-preserved
loop-i-preserved g c =
    let moved : c.abs_diff-distance.result
    ≡ distance (get_or c.args.results.now c.loop-i.i (pos 0)) (value_at c.args.values.now c.index-changes-i.result.object) =
    grind (arith, common_steps, to_z-of_z) in
    let here = get_or c.args.results.now c.loop-i.i (pos 0) in
    let few = value-few c.args.values.now c.args.changes.now c.args.results.now c.loop-i.i c.index-changes-i.result
    c.requires.legal (omega arith) c.requires.results c.index-changes-i.is in
    let fits : FitsSigned w32 here = grind (arith, ints, few) in
    let whole : to_z w64 (of_z w64 here) ≡ here = to_z-of_z w64 here (search rules) in
    let value : to_z w32 (of_z w32 (to_z w64 (of_z w64 here))) ≡ here =
    ap (λ z. to_z w32 (of_z w32 z)) whole ∙ to_z-of_z w32 here fits in
    let more = moves_of-more c.args.values.now c.args.changes.now c.args.results.now c.loop-i.i c.abs_diff-distance.result
    (to_z w32 (of_z w32 (to_z w64 (of_z w64 here)))) c.index-changes-i.result (omega arith) c.requires.results
    c.index-changes-i.is value (moved ∙ ap (λ r. distance r (value_at c.args.values.now c.index-changes-i.result.object)) (sym value)) in
    let old = c.args.moves.now.items in
    record {
      so_far = rw (c.push_reserved.ensures.items, c.loop-i.invariant.so_far) (append_assoc old _ _ ∙ ap (λ ds. old ++ ds) more);
      len = omega (arith, c.push_reserved.ensures.len, c.loop-i.invariant.len);
      spare = omega (arith, c.push_reserved.ensures.capacity, c.loop-i.invariant.spare);
    }
