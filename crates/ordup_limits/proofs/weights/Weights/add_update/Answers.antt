-- The update adds 1 to the count, and each move adds to the scopes on which it counts. The totals and the moves that are
-- left come to the totals of the next place, so no total is too large for the move that comes.
use Rattle.std.proofs.Common.{arith, ap, ◌≡◌, ◌+◌, ◌-◌, ◌∙◌, length}
use Rattle.std.proofs.lemmas.List.{drop_all}
use Rattle.ordup_log.specs.declared.scope.Scope.TheVariants.{Count}
use Rattle.ordup_limits.specs.Masks.{counts_on}
use Rattle.ordup_limits.specs.StoreLedgers.{WeightsAt}
use Rattle.ordup_limits.proofs.SiteLemmas.{raised-at, span-few}
use Rattle.ordup_limits.proofs.TotalLemmas.{distance-few, weight_of-next, span-one, object-known}
use Rattle.ordup_limits.proofs.weights.Weights.add_update.Goals as goal

pub moves-moves-requires : goal.moves-moves-requires
moves-moves-requires g c =
    record { first = omega arith; last = omega (arith, rw (← c.self.view_is) at c.requires.last) }

pub add-requires : goal.add-requires
add-requires g c =
    let weights = rw (← c.self.view_is) at c.requires.weights in
    record {
      index = omega arith;
      fits = omega (
        arith,
        weights.each Count tt,
        span-few c.args.log.now c.keeps.ensures.legal c.args.groups.now c.keeps-2.ensures.groups Count tt c.self.inside.place weights.last,
        weights.last,
        c.keeps.ensures.few,
      );
    }

pub loop-moved-init : goal.loop-moved-init
loop-moved-init g c =
    let h = c.args.log.now in
    let groups = c.args.groups.now in
    let place = c.self.inside.place in
    let here : place + 1 - 1 ≡ place = omega arith in
    let weights = rw (← c.self.view_is) at c.requires.weights in
    let last = rw (← c.self.view_is) at c.requires.last in
    rw (← c.self.view_is) (record {
      place = ap (λ (w : WeightsAt). w.place) c.add.ensures.raised;
      left = λ s known. rw (c.moves-moves.ensures.moves, here) (omega (
        arith,
        weights.each s known,
        raised-at (length h.start) groups (record { place = place + 1; totals = c.self.inside.totals.items }) c.add.new.self Count s 1
            c.requires.objects c.keeps-2.ensures.few tt known c.add.ensures.count c.add.ensures.raised,
        span-one h c.keeps.ensures.legal groups c.keeps-2.ensures.groups s known place last,
      ));
    })

pub add_move-requires : goal.add_move-requires
add_move-requires g c =
    let h = c.args.log.now in
    let groups = c.args.groups.now in
    let place = c.self.inside.place in
    let here : place + 1 - 1 ≡ place = omega arith in
    let last = rw (← c.self.view_is) at c.requires.last in
    let left = rw (← c.self.view_is) at c.loop-moved.invariant.left in
    record {
      objects = c.requires.objects;
      masks = c.requires.masks;
      known = object-known h c.moves-moves.ensures.legal place c.loop-moved.moved-index c.moves-moves.result.now
          c.moved-item.result last (rw here at c.moves-moves.ensures.moves) c.loop-moved-test.true c.moved-item.is;
      distance = distance-few h c.moves-moves.ensures.legal place c.loop-moved.moved-index c.moves-moves.result.now
          c.moved-item.result last (rw here at c.moves-moves.ensures.moves) c.loop-moved-test.true c.moved-item.is;
      few = λ s there. omega (
        arith,
        left s there,
        span-few h c.keeps.ensures.legal groups c.keeps-2.ensures.groups s there (place + 1) (omega (arith, last)),
        last,
        c.keeps.ensures.few,
      );
    }

pub loop-moved-preserved : goal.loop-moved-preserved
loop-moved-preserved g c =
    let ds = c.moves-moves.result.now in
    let i = c.loop-moved.moved-index in
    record {
      place = c.add_move.ensures.place ∙ c.loop-moved.invariant.place;
      left = λ s known. omega (
        arith,
        c.loop-moved.invariant.left s known,
        c.add_move.ensures.raised s known,
        weight_of-next (counts_on c.args.groups.now s) ds i c.moved-item.result c.loop-moved-test.true c.moved-item.is,
      );
    }

pub returns : goal.returns
returns g c =
    let none = drop_all c.loop-moved.moved-index c.moves-moves.result.now c.loop-moved-test.false in
    let place = c.loop-moved.invariant.place in
    record {
      place = place;
      weights = record {
        last = omega (arith, place, c.requires.last);
        each = λ s known. rw place (omega (arith, rw none at (c.loop-moved.invariant.left s known)));
      };
    }
