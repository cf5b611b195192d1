-- Moves of a legal set are on known objects, in range and short. Those put and those left come to what the set makes.
use Rattle.std.proofs.Common.{◌≡◌, ◌∙◌, arith, rules, to_z, of_z, w32, w64, FitsSigned, drop, []}
use Rattle.std.proofs.lemmas.Int.{to_z-of_z, ints}
use Rattle.std.proofs.lemmas.List.{drop_all}
use Rattle.ordup_site.proofs.TravelLemmas.{few_more}
use Rattle.ordup_site.proofs.MoveLemmas.{IsMoveOn-at, next_move, moved_to-more, travelled_by-more, Moves-put}
use Rattle.ordup_site.proofs.site.put_moves.Goals as goal

pub put_value-requires-clause-object : goal.put_value-requires-clause-object
put_value-requires-clause-object g c =
    let is = IsMoveOn-at _ _ _ _ _ c.requires.moves.1 c.keeps.ensures c.loop-moved-test.true c.moved-item.is in
    omega (arith, is.known, c.loop-moved.invariant.objects)

pub put_value-requires-clause-range : goal.put_value-requires-clause-range
put_value-requires-clause-range g c =
    let is = IsMoveOn-at _ _ _ _ _ c.requires.moves.1 c.keeps.ensures c.loop-moved-test.true c.moved-item.is in
    grind (arith, ints, is.range, c.from.ensures)

pub bounds-travelled-index : goal.bounds-travelled-index
bounds-travelled-index g c =
    let is = IsMoveOn-at _ _ _ _ _ c.requires.moves.1 c.keeps.ensures c.loop-moved-test.true c.moved-item.is in
    omega (arith, is.known, c.index.ensures, c.requires.same, c.loop-moved.auto.travelled)

pub offset_bounds-travelled-index : goal.offset_bounds-travelled-index
offset_bounds-travelled-index g c =
    let is = IsMoveOn-at _ _ _ _ _ c.requires.moves.1 c.keeps.ensures c.loop-moved-test.true c.moved-item.is in
    omega (arith, is.known, c.index.ensures, c.requires.same, c.loop-moved.auto.travelled)

pub bounds-travelled-index-in-loop-moved : goal.bounds-travelled-index-in-loop-moved
bounds-travelled-index-in-loop-moved g c =
    let is = IsMoveOn-at _ _ _ _ _ c.requires.moves.1 c.keeps.ensures c.loop-moved-test.true c.moved-item.is in
    omega (arith, is.known, c.index.ensures, c.requires.same, c.loop-moved.auto.travelled)

pub loop-moved-preserved : goal.loop-moved-preserved
loop-moved-preserved g c =
    let d = c.moved-item.result in
    let is = IsMoveOn-at _ _ _ _ d c.requires.moves.1 c.keeps.ensures c.loop-moved-test.true c.moved-item.is in
    let next = next_move c.args.moves.now c.loop-moved.moved-index d c.loop-moved-test.true c.moved-item.is in
    let fits : FitsSigned w32 d.value = grind (arith, ints, is.range) in
    let small : to_z w32 (of_z w32 d.value) ≡ d.value = to_z-of_z w32 d.value fits in
    let whole : to_z w64 (of_z w64 c.from.result) ≡ c.from.result = to_z-of_z w64 c.from.result (search rules) in
    record {
      values = rw c.put_value.ensures.put (moved_to-more _ _ d c.loop-moved.values _ next (whole ∙ c.from.ensures ∙ small))
          ∙ c.loop-moved.invariant.values;
      objects = omega (arith, c.put_value.ensures.len, c.loop-moved.invariant.objects);
      travelled = travelled_by-more _ _ d c.loop-moved.travelled c.index.result c.from-in-loop-moved.result next c.index.ensures
          c.from-in-loop-moved.ensures ∙ c.loop-moved.invariant.travelled;
      bounded = few_more c.loop-moved.travelled c.index.result c.from-in-loop-moved.result c.loop-moved.moved-index
          c.loop-moved.invariant.bounded (omega (arith, is.near, c.from-in-loop-moved.ensures));
    }

pub returns : goal.returns
returns g c = λ m are.
    let end : drop c.loop-moved.moved-index c.args.moves.now ≡ [] =
    drop_all c.loop-moved.moved-index c.args.moves.now c.loop-moved-test.false in
    Moves-put c.args.values.now c.loop-moved.values c.args.travelled.now c.loop-moved.travelled m c.args.moves.now are
    c.keeps.ensures c.requires.same c.loop-moved.invariant.objects
    (rw end at c.loop-moved.invariant.values) (rw end at c.loop-moved.invariant.travelled)
