-- The ring allows just the next parcel after those taken, so what was taken stays in order with it.
use Rattle.std.proofs.Common.{[], ◌∷◌, refl}
use Rattle.rtrb.specs.Ring.{received}
use Rattle.ordup_ring.specs.declared.ring.Item.TheVariants.{Next}
use Rattle.ordup_feed.proofs.ParcelLemmas.{in-order-push}
use Rattle.ordup_ring.proofs.RingLemmas.{parcels-append, start-append, run-some, run-more}
use Rattle.ordup_ring.proofs.ring_take_end.RingTakeEnd.pop.Goals as goal

pub invariant_of-self-2 : goal.invariant_of-self-2
invariant_of-self-2 c =
    let old = c.self.invariant in
    let items = received c.self.inside.consumer in
    let ok = rw c.in-Next.is at c.in-Ok.ensures.ok in
    record {
      run = rw ok.0 (run-more _ _ old.run);
      order =
          rw (ok.0, start-append items (Next c.in-Next.parcel ∷ []) (run-some _ old.run), parcels-append items (Next c.in-Next.parcel ∷ []))
          (in-order-push _ _ _ old.order ok.2.1 c.keeps.ensures);
    }

pub returns-clause-taken : goal.returns-clause-taken
returns-clause-taken c =
    let ring = c.pop.ensures.ring in
    let items = received c.self.inside.consumer in
    let ok = rw c.in-Next.is at c.in-Ok.ensures.ok in
    rw (
      ring.0.0,
      ring.0.1,
      ring.0.2,
      ring.1,
      ok.0,
      start-append items (Next c.in-Next.parcel ∷ []) (run-some _ c.self.invariant.run),
      parcels-append items (Next c.in-Next.parcel ∷ []),
      ← c.self.view_is,
    ) refl

pub returns-clause-order : goal.returns-clause-order
returns-clause-order c =
    let old = c.self.invariant in
    let items = received c.self.inside.consumer in
    let ok = rw c.in-Next.is at c.in-Ok.ensures.ok in
    rw (ok.0, start-append items (Next c.in-Next.parcel ∷ []) (run-some _ old.run), parcels-append items (Next c.in-Next.parcel ∷ []))
    (in-order-push _ _ _ old.order ok.2.1 c.keeps.ensures)
