-- The sets dealt and the sets left are all sets, and `turn` is the caller whose hand the next set goes into.
use Rattle.std.proofs.Common.{◌≡◌, ◌+◌, ◌<◌, length, refl, inl, inr, rules, arith}
use Rattle.std.specs.Vec.Iter.{into_iter_items}
use Rattle.std.proofs.lemmas.Grind.{common_steps}
use Rattle.ordup_plan.proofs.DealingLemmas.{are-dealt, deals-more, deals-none, none-left}
use Rattle.ordup_plan.proofs.dealing.deal.Goals as goal

pub loop-set-init : goal.loop-set-init
loop-set-init c =
    let all : length c.loop.hands.items ≡ c.args.callers = search rules in
    let sets : into_iter_items c.into_iter-set-iterator.result ≡ c.args.sets.items = search rules in
    record {
      deals =
          rw sets
          (deals-none c.args.callers c.args.sets.items c.loop.hands.items c.requires all
          (λ hand d lt. c.loop.invariant.empty hand d (omega (arith, all))));
      all = search rules;
    }

pub loop-set-preserved-then-turn-len : goal.loop-set-preserved-then-turn-len
loop-set-preserved-then-turn-len c =
    let front = c.in-Some.ensures.steps.0 in
    let count = c.loop-set.invariant.deals.count in
    let last : c.loop-set.turn + 1 ≡ length c.loop-set.hands.items = search rules in
    record {
      deals =
          deals-more c.args.callers c.loop-set.turn 0 c.args.sets.items (into_iter_items c.next.new.self) c.in-Some.set
          c.loop-set.hands.items c.index_mut.result.now c.push-in-loop-set.new.self (rw front at c.loop-set.invariant.deals)
          (inr (refl, omega (arith, last, count))) c.index_mut.ensures.value c.in_ok-push-2.ensures.items;
      all = grind (arith, common_steps);
    }

pub loop-set-preserved : goal.loop-set-preserved
loop-set-preserved c =
    let front = c.in-Some.ensures.steps.0 in
    let turn = c.loop-set.invariant.deals.turn in
    let count = c.loop-set.invariant.deals.count in
    let other = c.if-turn-len.false in
    let next : c.loop-set.turn + 1 < c.args.callers = omega (arith, other, turn, count, c.len.ensures, c.loop-set.hands.ok) in
    record {
      deals =
          deals-more c.args.callers c.loop-set.turn (c.loop-set.turn + 1) c.args.sets.items (into_iter_items c.next.new.self)
          c.in-Some.set c.loop-set.hands.items c.index_mut.result.now c.push-in-loop-set.new.self (rw front at c.loop-set.invariant.deals)
          (inl (refl, next)) c.index_mut.ensures.value c.in_ok-push-2.ensures.items;
      all = grind (arith, common_steps);
    }

pub returns-clause-dealt : goal.returns-clause-dealt
returns-clause-dealt c =
    let none = none-left (into_iter_items c.loop-set.set-iterator) (omega (arith, c.in-None.ensures.steps.0, c.loop-set.set-iterator.rest.ok)) in
    are-dealt c.args.callers c.loop-set.turn c.args.sets.items c.loop-set.hands.items (rw none at c.loop-set.invariant.deals)
