-- The results of a legal set are its values afterwards. So each move has its value and its distance, and both fit.
use Rattle.std.proofs.Common.{◌≡◌, ◌<◌, ◌∙◌, length, arith, rules, get_or, pos, ap, sym, to_z, of_z, w32, w64, FitsSigned}
use Rattle.std.proofs.lemmas.Grind.{common_steps}
use Rattle.std.proofs.lemmas.Int.{to_z-of_z, ints}
use Rattle.ordup_objects.specs.States.{value_at, AreResults}
use Rattle.ordup_objects.specs.Weights.{distance}
use Rattle.ordup_objects.proofs.MoveLemmas.{distance-few, value-few}
use Rattle.ordup_site.proofs.MoveLemmas.{results-legal, moves_of-computed}
use Rattle.ordup_site.proofs.site.compute_moves.Goals as goal

pub overflow_cast-moves-in-loop-i : goal.overflow_cast-moves-in-loop-i
overflow_cast-moves-in-loop-i g c =
    let v = c.args.values.now in
    let m = c.changes-changes.result.now in
    let rs = c.as_slice-results.result.now in
    let are : AreResults v m rs = rw (c.changes-changes.ensures.changes, c.as_slice-results.ensures.results)
    (results-legal _ c.results.ensures.legal c.requires.legal c.results.ensures.results) in
    let moved : c.abs_diff-distance.result ≡ distance (get_or rs c.loop-i.i (pos 0)) (value_at v c.index-changes-i.result.object) =
    grind (arith, common_steps, to_z-of_z) in
    let few = distance-few v m rs c.loop-i.i c.abs_diff-distance.result c.index-changes-i.result c.keeps.ensures
    (rw c.changes-changes.ensures.changes c.requires.legal) (omega arith) are c.index-changes-i.is moved in
    omega (arith, few)

pub overflow_cast-moves : goal.overflow_cast-moves
overflow_cast-moves g c =
    let v = c.args.values.now in
    let m = c.changes-changes.result.now in
    let rs = c.as_slice-results.result.now in
    let are : AreResults v m rs = rw (c.changes-changes.ensures.changes, c.as_slice-results.ensures.results)
    (results-legal _ c.results.ensures.legal c.requires.legal c.results.ensures.results) in
    let here = get_or rs c.loop-i.i (pos 0) in
    let few = value-few v m rs c.loop-i.i c.index-changes-i.result (rw c.changes-changes.ensures.changes c.requires.legal)
    (omega arith) are c.index-changes-i.is in
    let fits : FitsSigned w32 here = grind (arith, ints, few) in
    let whole : to_z w64 (of_z w64 here) ≡ here = to_z-of_z w64 here (search rules) in
    rw whole fits

pub loop-i-preserved : goal.loop-i-preserved
loop-i-preserved g c =
    let v = c.args.values.now in
    let m = c.changes-changes.result.now in
    let rs = c.as_slice-results.result.now in
    let d = c.index-changes-i.result in
    let are : AreResults v m rs = rw (c.changes-changes.ensures.changes, c.as_slice-results.ensures.results)
    (results-legal _ c.results.ensures.legal c.requires.legal c.results.ensures.results) in
    let moved : c.abs_diff-distance.result ≡ distance (get_or rs c.loop-i.i (pos 0)) (value_at v d.object) =
    grind (arith, common_steps, to_z-of_z) in
    let spare : c.loop-i.i < length c.loop-i.moves =
    omega (arith, c.changes-changes.ensures.set.few, ap length c.changes-changes.ensures.changes) in
    let here = get_or rs c.loop-i.i (pos 0) in
    let few = value-few v m rs c.loop-i.i d (rw c.changes-changes.ensures.changes c.requires.legal) (omega arith) are
    c.index-changes-i.is in
    let fits : FitsSigned w32 here = grind (arith, ints, few) in
    let whole : to_z w64 (of_z w64 here) ≡ here = to_z-of_z w64 here (search rules) in
    let value : to_z w32 (of_z w32 (to_z w64 (of_z w64 here))) ≡ here =
    ap (λ z. to_z w32 (of_z w32 z)) whole ∙ to_z-of_z w32 here fits in
    moves_of-computed v m rs c.loop-i.moves c.loop-i.i c.abs_diff-distance.result
    (to_z w32 (of_z w32 (to_z w64 (of_z w64 here)))) d (omega arith) spare are c.index-changes-i.is value
    (moved ∙ ap (λ r. distance r (value_at v d.object)) (sym value)) c.loop-i.invariant

pub returns : goal.returns
returns g c = record {
  moves = record {
    set = c.changes-changes.ensures.set;
    known = c.requires.known;
    legal = c.requires.legal;
    moves = grind (arith, common_steps);
  };
  spare = search rules;
}
