-- Each move raises the totals that have a bit in the mask of its object, and the moves that are left will do the same.
-- So in the end each total is higher by all moves with its bit, which are too light to take it past its bound.
use Rattle.std.proofs.Common.{arith, ap, inl, inr, ◌==◌, ◌∙◌, ◌≡◌, ◌+◌, ◌-◌, refl}
use Rattle.std.specs.Int.{bit_at}
use Rattle.std.proofs.lemmas.Bool.{cases_lt}
use Rattle.std.proofs.lemmas.List.{drop_all}
use Rattle.ordup_limits.specs.Sizes.{most_limits}
use Rattle.ordup_limits.specs.Masks.{has_bit}
use Rattle.ordup_limits.specs.Totals.{share}
use Rattle.ordup_limits.proofs.RaisedLemmas.{AreRaised-one}
use Rattle.ordup_limits.proofs.TotalLemmas.{distance-few, weight_of-next, weight_where-few, object-known}
use Rattle.ordup_limits.proofs.totals.Totals.add_update.Goals as goal

pub loop-moved-init : goal.loop-moved-init
loop-moved-init g c =
    let here : c.args.place + 1 - 1 ≡ c.args.place = omega arith in
    record { totals = λ k lt. rw (c.moves-moves.ensures.moves, here) refl; others = λ k past. refl }

pub of-requires : goal.of-requires
of-requires g c =
    let here : c.args.place + 1 - 1 ≡ c.args.place = omega arith in
    let known = object-known c.args.log.now c.moves-moves.ensures.legal c.args.place c.loop-moved.moved-index c.moves-moves.result.now
    c.moved-item.result c.requires.last (rw here at c.moves-moves.ensures.moves) c.loop-moved-test.true c.moved-item.is in
    omega (arith, known, c.requires.objects)

pub add-requires : goal.add-requires
add-requires g c =
    let here : c.args.place + 1 - 1 ≡ c.args.place = omega arith in
    record {
      weight = omega (
        arith,
        c.from.ensures,
        distance-few c.args.log.now c.moves-moves.ensures.legal c.args.place c.loop-moved.moved-index c.moves-moves.result.now
            c.moved-item.result c.requires.last (rw here at c.moves-moves.ensures.moves) c.loop-moved-test.true c.moved-item.is,
      );
      few = λ k. elim (cases_lt k most_limits) [
        | inl lt ↦ omega (
          arith,
          c.loop-moved.invariant.totals k lt,
          weight_where-few c.args.log.now c.moves-moves.ensures.legal (has_bit c.args.masks.now k) c.args.place c.requires.last,
          c.requires.few k,
          c.requires.last,
          c.keeps.ensures.few,
        )
        | inr past ↦ omega (arith, c.loop-moved.invariant.others k past, c.requires.few k, c.requires.last, c.keeps.ensures.few)
      ];
    }

pub loop-moved-preserved : goal.loop-moved-preserved
loop-moved-preserved g c =
    let ds = c.moves-moves.result.now in
    let i = c.loop-moved.moved-index in
    let before = c.loop-moved.invariant in
    record {
      totals = λ k lt. omega (
        arith,
        before.totals k lt,
        c.add.ensures.each k lt,
        ap (λ m. share (bit_at m k == 1) c.moved-item.result.distance) c.of.ensures,
        ap (share (bit_at c.of.result k == 1)) c.from.ensures,
        weight_of-next (has_bit c.args.masks.now k) ds i c.moved-item.result c.loop-moved-test.true c.moved-item.is,
      );
      others = λ k past. c.add.ensures.others k past ∙ before.others k past;
    }

pub returns : goal.returns
returns g c =
    let none = drop_all c.loop-moved.moved-index c.moves-moves.result.now c.loop-moved-test.false in
    AreRaised-one c.args.log.now c.args.masks.now c.args.place c.args.self.now c.loop-moved.self
    (λ k lt. omega (arith, rw none at (c.loop-moved.invariant.totals k lt))) c.loop-moved.invariant.others
