-- The queue's rule keeps all parcels in order, and one end alone takes them. So the front one is next after those taken.
use Rattle.std.proofs.Common.{[], refl, subst, ◌∙◌, arith}
use Rattle.std.proofs.lemmas.List.{length_push}
use Rattle.crossbeam_queue.specs.Passes.{view}
use Rattle.ordup_feed.specs.Parcels.{IsNext}
use Rattle.ordup_feed.specs.QueueRule.{parcels_of}
use Rattle.ordup_feed.specs.Ends.{Taking}
use Rattle.ordup_feed.proofs.QueueMoves.{pops}
use Rattle.ordup_feed.proofs.ParcelLemmas.{in-order-next}
use Rattle.ordup_feed.proofs.take_end.TakeEnd.pop.Goals as goal

pub pop_as-requires-clause-rule : goal.pop_as-requires-clause-rule
pop_as-requires-clause-rule g c = (pops _ _ c.self.invariant.taker, λ items views h at. tt)

pub invariant_of-self : goal.invariant_of-self
invariant_of-self g c =
    let old = c.self.invariant in
    let pass = c.in_err-parcel.ensures.queue in
    let same = c.in_err-parcel.ensures.rule.0 in
    record {
      queue = (pass.0 ∙ old.queue.0, pass.2 ∙ old.queue.1);
      taker = rw same old.taker;
      counter = old.counter;
      tells = old.tells;
      counted = rw same old.counted;
      order = rw same old.order;
      told = rw same old.told;
    }

pub invariant_of-self-2 : goal.invariant_of-self-2
invariant_of-self-2 g c =
    let old = c.self.invariant in
    let pass = c.in_ok-parcel.ensures.queue in
    let rule = c.in_ok-parcel.ensures.rule in
    let more = length_push (parcels_of (view c.self.inside.pass)) c.in_ok-parcel.parcel in
    record {
      queue = (pass.0 ∙ old.queue.0, pass.2 ∙ old.queue.1);
      taker = rw rule.0 refl;
      counter = old.counter;
      tells = old.tells;
      counted = rw rule.0 (let counted = old.counted in omega (arith, counted, more));
      order = rw rule.0 rule.1;
      told = rw rule.0 (let told = old.told in omega (arith, told, more));
    }

pub returns-clause-taken : goal.returns-clause-taken
returns-clause-taken g c = rw (c.in_ok-parcel.ensures.queue.0, c.in_ok-parcel.ensures.rule.0, ← c.self.view_is) refl

pub returns-clause-next : goal.returns-clause-next
returns-clause-next g c =
    subst (λ (s : Taking). IsNext s.start s.taken c.in_ok-parcel.parcel) c.self.view_is
    (in-order-next _ _ _ [] c.in_ok-parcel.ensures.rule.1)

pub returns-clause-order : goal.returns-clause-order
returns-clause-order g c = rw c.in_ok-parcel.ensures.rule.0 c.in_ok-parcel.ensures.rule.1
