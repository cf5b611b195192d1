-- A parcel that comes next keeps the order of those in the ring. One slot fewer is free, and one parcel more was pushed.
use Rattle.std.proofs.Common.{◌∙◌, ◌++◌, ◌∷◌, [], List, ap, refl, sym, subst, length, arith}
use Rattle.rtrb.specs.Ring.{sent}
use Rattle.ordup_ring.specs.declared.ring.Item.{Item}
use Rattle.ordup_ring.specs.declared.ring.Item.TheVariants.{Next}
use Rattle.ordup_feed.specs.Parcels.{IsNext}
use Rattle.ordup_ring.specs.RingRule.{parcels_in}
use Rattle.ordup_feed.specs.Ends.{Sending}
use Rattle.ordup_feed.proofs.ParcelLemmas.{in-order-push}
use Rattle.ordup_ring.proofs.RingLemmas.{parcels-append, start-append, run-some, run-more, count-more}
use Rattle.ordup_ring.proofs.ring_send_end.RingSendEnd.push.Goals as goal

pub invariant_of-self-2 : goal.invariant_of-self-2
invariant_of-self-2 c =
    let old = c.self.invariant in
    let pushed = c.push_reserved.ensures in
    let looked = c.is_full.ensures.looked in
    let items = sent c.self.inside.producer in
    let is = pushed.sent.0 ∙ ap (λ (xs : List Item). xs ++ Next c.args.parcel ∷ []) looked.1 in
    let next = subst (λ (s : Sending). IsNext s.start s.pushed c.args.parcel) (sym c.self.view_is) c.requires in
    let count = count-more items c.args.parcel in
    let more = ap (λ (xs : List Item). length (parcels_in xs)) is ∙ count in
    record {
      run = rw is (run-more _ _ old.run);
      counted = rw is (let counted = old.counted in omega (arith, counted, count));
      order =
          rw (is, start-append items (Next c.args.parcel ∷ []) (run-some _ old.run), parcels-append items (Next c.args.parcel ∷ []))
          (in-order-push _ _ _ old.order next c.keeps.ensures);
      free = (let free = old.free in omega (arith, free, more, pushed.sent.1, pushed.ring.1, looked.0.1, looked.2));
    }

pub returns-clause-pushed : goal.returns-clause-pushed
returns-clause-pushed c =
    let ring = c.push_reserved.ensures.ring in
    let looked = c.is_full.ensures.looked in
    let items = sent c.self.inside.producer in
    let is = c.push_reserved.ensures.sent.0 ∙ ap (λ (xs : List Item). xs ++ Next c.args.parcel ∷ []) looked.1 in
    rw (
      ring.0.0 ∙ looked.0.0.0,
      ring.0.1 ∙ looked.0.0.1,
      ring.0.2 ∙ looked.0.0.2,
      ring.1 ∙ looked.0.1,
      is,
      start-append items (Next c.args.parcel ∷ []) (run-some _ c.self.invariant.run),
      parcels-append items (Next c.args.parcel ∷ []),
      ← c.self.view_is,
    ) refl
