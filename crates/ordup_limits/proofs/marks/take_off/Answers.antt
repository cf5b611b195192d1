-- The marks are those of the place before, with the moves of the update that are still to come off.
-- So no mark is less than the move that comes off it, and once no move is left they are those of the place before alone.
use Rattle.std.proofs.Common.{arith, ap, [], inl, inr, ◌≡◌, ◌<◌, ◌+◌, ◌-◌, ◌==◌, ◌∙◌, refl, sym, get_or, length}
use Rattle.std.proofs.Math.ListN.{length-set}
use Rattle.std.proofs.lemmas.Bool.{cases_eq, eq-eqb, ne_eqb}
use Rattle.std.proofs.lemmas.Grind.{get_or-set_at}
use Rattle.std.proofs.lemmas.List.{drop_all, get_or_read, get_or-set_other}
use Rattle.ordup_log.specs.declared.scope.Scope.TheVariants.{Object}
use Rattle.ordup_limits.specs.Totals.{share}
use Rattle.ordup_limits.proofs.TotalLemmas.{weight_of-next, span-one, object-known}
use Rattle.ordup_limits.proofs.marks.take_off.Goals as goal

pub moves-moves-requires : goal.moves-moves-requires
moves-moves-requires g c = record { first = c.requires.first; last = c.requires.last }

pub loop-moved-init : goal.loop-moved-init
loop-moved-init g c =
    let here : c.args.place - 1 + 1 ≡ c.args.place = omega (arith, c.requires.first) in
    record {
      count = c.requires.count;
      left = λ x lt. rw (c.moves-moves.ensures.moves) (omega (
        arith,
        c.requires.marks x (omega (arith, lt, c.requires.count)),
        rw here at (span-one c.args.log.now c.keeps.ensures.legal [] (λ i d lt. absurd (omega (arith, lt))) (Object x) lt (c.args.place - 1)
            (omega (arith, c.requires.first, c.requires.last))),
      ));
    }

pub index_mut-requires : goal.index_mut-requires
index_mut-requires g c =
    let known = object-known c.args.log.now c.moves-moves.ensures.legal (c.args.place - 1) c.loop-moved.moved-index c.moves-moves.result.now
    c.moved-item.result (omega (arith, c.requires.first, c.requires.last)) c.moves-moves.ensures.moves c.loop-moved-test.true
    c.moved-item.is in
    omega (arith, known, c.index.ensures, c.loop-moved.invariant.count)

pub overflow_sub-index_mut : goal.overflow_sub-index_mut
overflow_sub-index_mut g c =
    let ds = c.moves-moves.result.now in
    let i = c.loop-moved.moved-index in
    let x = c.moved-item.result.object in
    let marks = c.loop-moved.marks.items in
    let known : x < length c.args.log.now.start =
    object-known c.args.log.now c.moves-moves.ensures.legal (c.args.place - 1) c.loop-moved.moved-index c.moves-moves.result.now
    c.moved-item.result (omega (arith, c.requires.first, c.requires.last)) c.moves-moves.ensures.moves c.loop-moved-test.true
    c.moved-item.is in
    omega (
      arith,
      get_or_read marks c.index.result c.index_mut.result.now (omega (arith, known, c.index.ensures, c.loop-moved.invariant.count))
          c.index_mut.ensures.value 0,
      ap (λ k. get_or marks k 0) c.index.ensures,
      c.loop-moved.invariant.left x known,
      weight_of-next (λ z. x == z) ds i c.moved-item.result c.loop-moved-test.true c.moved-item.is,
      ap (λ b. share b c.moved-item.result.distance) (eq-eqb x x refl),
    )

pub loop-moved-preserved : goal.loop-moved-preserved
loop-moved-preserved g c =
    let ds = c.moves-moves.result.now in
    let i = c.loop-moved.moved-index in
    let x = c.moved-item.result.object in
    let marks = c.loop-moved.marks.items in
    let before = c.loop-moved.invariant in
    let known : x < length c.args.log.now.start =
    object-known c.args.log.now c.moves-moves.ensures.legal (c.args.place - 1) c.loop-moved.moved-index c.moves-moves.result.now
    c.moved-item.result (omega (arith, c.requires.first, c.requires.last)) c.moves-moves.ensures.moves c.loop-moved-test.true
    c.moved-item.is in
    let there : c.index.result < length marks = omega (arith, known, c.index.ensures, before.count) in
    let was : c.index_mut.result.now ≡ get_or marks x 0 =
    get_or_read marks c.index.result c.index_mut.result.now there c.index_mut.ensures.value 0
    ∙ ap (λ k. get_or marks k 0) c.index.ensures in
    record {
      count = length-set marks c.index.result _ ∙ before.count;
      left = λ y lt. (let next = weight_of-next (λ z. y == z) ds i c.moved-item.result c.loop-moved-test.true c.moved-item.is in
          elim (cases_eq y x) [
            | inl here ↦ omega (
              arith,
              get_or-set_at marks c.index.result y (c.index_mut.result.now - c.from.result) 0 (here ∙ sym c.index.ensures) there,
              was,
              ap (λ k. get_or marks k 0) here,
              before.left y lt,
              next,
              ap (λ b. share b c.moved-item.result.distance) (eq-eqb y x here),
            )
            | inr other ↦ omega (
              arith,
              get_or-set_other marks c.index.result y (c.index_mut.result.now - c.from.result) 0 (λ e. other (e ∙ c.index.ensures)),
              before.left y lt,
              next,
              ap (λ b. share b c.moved-item.result.distance) (ne_eqb y x other),
            )
          ]);
    }

pub returns-clause-count : goal.returns-clause-count
returns-clause-count g c = c.loop-moved.invariant.count

pub returns-clause-marks : goal.returns-clause-marks
returns-clause-marks g c =
    let none = drop_all c.loop-moved.moved-index c.moves-moves.result.now c.loop-moved-test.false in
    λ x lt. omega (arith, rw none at (c.loop-moved.invariant.left x (omega (arith, lt, c.loop-moved.invariant.count))))
