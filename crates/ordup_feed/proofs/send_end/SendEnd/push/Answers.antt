-- A parcel that comes next keeps the order of those in the queue, which is what the queue's rule asks of whoever pushes.
use Rattle.std.proofs.Common.{◌∙◌, refl, sym, subst, arith}
use Rattle.std.proofs.lemmas.List.{length_push}
use Rattle.crossbeam_queue.specs.Passes.{view}
use Rattle.ordup_feed.specs.Parcels.{IsNext}
use Rattle.ordup_feed.specs.QueueRule.{parcels_of}
use Rattle.ordup_feed.specs.Ends.{Sending}
use Rattle.ordup_feed.proofs.QueueMoves.{pushes, learns}
use Rattle.ordup_feed.proofs.ParcelLemmas.{in-order-push}
use Rattle.ordup_feed.proofs.send_end.SendEnd.push.Goals as goal

pub push_as-requires-clause-rule : goal.push_as-requires-clause-rule
push_as-requires-clause-rule g c =
    let next = subst (λ (s : Sending). IsNext s.start s.pushed c.args.parcel) (sym c.self.view_is) c.requires in
    (pushes _ _ _ _ c.self.invariant.sender next c.keeps.ensures, learns _ _ c.self.invariant.sender)

pub invariant_of-self : goal.invariant_of-self
invariant_of-self g c =
    let old = c.self.invariant in
    let pass = c.in-Ok.ensures.queue in
    let next = subst (λ (s : Sending). IsNext s.start s.pushed c.args.parcel) (sym c.self.view_is) c.requires in
    record {
      queue = (pass.0 ∙ old.queue.0, pass.2 ∙ old.queue.1);
      sender = rw c.in-Ok.ensures.rule refl;
      counter = old.counter;
      knows = old.knows;
      counted =
          rw c.in-Ok.ensures.rule
          (let counted = old.counted in
          omega (arith, counted, length_push (parcels_of (view c.self.inside.pass)) c.args.parcel));
      order = rw c.in-Ok.ensures.rule (in-order-push _ _ _ old.order next c.keeps.ensures);
    }
