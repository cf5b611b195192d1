-- Each step keeps the rule of the queue.
use Rattle.std.proofs.Common.{◌≡◌, ℕ, zero, suc, List, [], ◌∷◌, ◌++◌, refl, sym, ap, ◌∙◌, subst, append_assoc}
use Rattle.std.proofs.Math.Seq.{take-append_seam}
use mathlib.Core.Option.{some-injective}
use Rattle.crossbeam_queue.specs.Fifo.{Pushes, Pops, Learns}
use Rattle.ordup_objects.specs.Sets.{IsSet}
use Rattle.ordup_feed.specs.declared.queue.View.{View}
use Rattle.ordup_feed.specs.declared.queue.View.TheVariants.{Whole, Sender, Taker}
use Rattle.ordup_feed.specs.Parcels.{PlainParcel, IsNext, AreInOrder}
use Rattle.ordup_feed.specs.QueueRule.{QueueHolds, start_of, parcels_of, IsSender, IsTaker, Pushed, Popped, IsBackOfPushed}
use Rattle.ordup_feed.specs.Laws.{TakenIsAPrefixOfPushed}
use Rattle.ordup_feed.proofs.ParcelLemmas.{in-order-push, in-order-front}

-- push taken
pub pushes : (n port : ℕ) (v : View) (x : PlainParcel) → IsSender v → IsNext (start_of v) (parcels_of v) x → IsSet x.set
    → Pushes QueueHolds n port v x (Pushed v x)
pushes n zero v x is next set items (Whole ∷ []) spare h at = absurd cc
pushes n (suc port) v x is next set items (Whole ∷ []) spare h at = absurd cc
pushes n zero v x is next set items (Sender start pushed ∷ Taker begun taken ∷ []) spare h at =
    let here : Sender start pushed ≡ v = some-injective _ _ at in
    let s : start_of v ≡ start = sym (ap start_of here) in
    let p : parcels_of v ≡ pushed = sym (ap parcels_of here) in
    let next' : IsNext start pushed x = subst (λ (u : View). IsNext (start_of u) (parcels_of u) x) (sym here) next in (
      Sender (start_of v) (parcels_of v ++ x ∷ []),
      (
        h.0 ∙ sym s,
        rw (p, h.1) (append_assoc taken items (x ∷ [])),
        rw (s, p) (in-order-push start pushed x h.2 next' set),
      ),
      refl,
    )
pushes n (suc zero) v x is next set items (Sender start pushed ∷ Taker begun taken ∷ []) spare h at = absurd cc
pushes n (suc (suc port)) v x is next set items (Sender start pushed ∷ Taker begun taken ∷ []) spare h at = absurd cc
pushes n port v x is next set items views spare h at = absurd h

-- push refused full
pub learns : (port : ℕ) (v : View) → IsSender v → Learns QueueHolds port v (IsBackOfPushed v)
learns zero v is items (Whole ∷ []) h at = absurd cc
learns (suc port) v is items (Whole ∷ []) h at = absurd cc
learns zero v is items (Sender start pushed ∷ Taker begun taken ∷ []) h at =
    let here : Sender start pushed ≡ v = some-injective _ _ at in (taken, sym (ap parcels_of here) ∙ h.1)
learns (suc zero) v is items (Sender start pushed ∷ Taker begun taken ∷ []) h at = absurd cc
learns (suc (suc port)) v is items (Sender start pushed ∷ Taker begun taken ∷ []) h at = absurd cc
learns port v is items views h at = absurd h

-- pop taken
pub pops : (port : ℕ) (v : View) → IsTaker v → Pops QueueHolds port v (Popped v)
pops zero v is x items (Whole ∷ []) h at = absurd cc
pops (suc port) v is x items (Whole ∷ []) h at = absurd cc
pops zero v is x items (Sender start pushed ∷ Taker begun taken ∷ []) h at = absurd cc
pops (suc zero) v is x items (Sender start pushed ∷ Taker begun taken ∷ []) h at =
    let here : Taker begun taken ≡ v = some-injective _ _ at in
    let s : start_of v ≡ begun = sym (ap start_of here) in
    let p : parcels_of v ≡ taken = sym (ap parcels_of here) in
    let parts : pushed ≡ (taken ++ x ∷ []) ++ items = h.1 ∙ sym (append_assoc taken (x ∷ []) items) in
    let order = in-order-front start (taken ++ x ∷ []) items (subst (λ (ps : List PlainParcel). AreInOrder start ps) parts h.2) in (
      Taker (start_of v) (parcels_of v ++ x ∷ []),
      (s ∙ h.0, rw p parts, h.2),
      (refl, rw (s, p, h.0) order),
    )
pops (suc (suc port)) v is x items (Sender start pushed ∷ Taker begun taken ∷ []) h at = absurd cc
pops port v is x items views h at = absurd h

-- what was taken is the first of what was pushed
pub taken-prefix : TakenIsAPrefixOfPushed
taken-prefix items start begun pushed taken h = (
  h.0,
  sym (rw h.1 (take-append_seam taken items)),
  in-order-front start taken items (subst (λ (ps : List PlainParcel). AreInOrder start ps) h.1 h.2),
)
