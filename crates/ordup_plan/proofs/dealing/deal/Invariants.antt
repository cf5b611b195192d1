use Rattle.std.proofs.Common.{◌≡◌, ◌+◌, [], sum_by, vec_len}
use Rattle.std.specs.Prelude.{All}
use Rattle.std.specs.Vec.Iter.{into_iter_items, into_iter_len}
use Rattle.ordup_plan.proofs.DealingLemmas.{Deals}
use Rattle.ordup_plan.proofs.dealing.deal.Given as goal

-- the hands so far are empty
abbrev pub invariant-loop : goal.invariant-loop
invariant-loop l = record {
  count : vec_len l.hands ≡ l.counter;
  empty : All (λ hand. hand.items ≡ []) l.hands.items;
  none : sum_by vec_len l.hands.items ≡ 0;
}

-- each set is in a hand or left, and it is the turn of one caller
abbrev pub invariant-loop-set : goal.invariant-loop-set
invariant-loop-set l = record {
  deals : Deals l.fn.callers l.turn l.fn.sets.items (into_iter_items l.set-iterator) l.hands.items;
  all : sum_by vec_len l.hands.items + into_iter_len l.set-iterator ≡ vec_len l.fn.sets;
}
