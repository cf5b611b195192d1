-- Both ends have shares of one queue and one counter, and agree that no parcel was pushed, none taken and none told.
use Rattle.std.proofs.Common.{refl, rules, ◌∙◌}
use Rattle.ordup_feed.proofs.ParcelLemmas.{in-order-none}
use Rattle.ordup_feed.proofs.feed.open.Goals as goal

pub invariant_of-sender : goal.invariant_of-sender
invariant_of-sender g c =
    let made = c.in_ok-queue.ensures in
    let halves = c.another-taker_pass.ensures in
    let counts = c.split_pass-taker_counter_pass.ensures in
    record {
      queue = rw c.in_ok-queue-2.ensures.0 (halves.queue.0.0 ∙ made.1.0, halves.queue.0.2 ∙ made.1.1);
      sender = rw halves.rule.0 refl;
      counter = rw c.in_ok-counter-2.ensures.0 (counts.kept.0.0 ∙ c.in_ok-counter.ensures.0);
      knows = rw counts.kept.1 refl;
      counted = rw halves.rule.0 refl;
      order = rw halves.rule.0 (in-order-none _ c.requires.state);
    }

pub invariant_of-taker : goal.invariant_of-taker
invariant_of-taker g c =
    let halves = c.another-taker_pass.ensures in
    let counts = c.split_pass-taker_counter_pass.ensures in
    record {
      queue = rw c.in_ok-queue-2.ensures.1 halves.queue.1;
      taker = rw halves.rule.1 refl;
      counter = rw c.in_ok-counter-2.ensures.1 (counts.given.0 ∙ c.in_ok-counter.ensures.0);
      tells = rw counts.given.1 refl;
      counted = rw halves.rule.1 refl;
      order = rw halves.rule.1 (in-order-none _ c.requires.state);
      told = rw (halves.rule.1, counts.given.1) (search rules);
    }
