-- Lists of parcels that are in order, put together and cut.
use Rattle.std.proofs.Common.{◌≡◌, ℕ, ◌+◌, ◌<◌, ◌≤◌, List, [], ◌∷◌, ◌++◌, length, map, arith, rules, inl, inr}
use Rattle.std.proofs.Math.ListN.{get_or-append}
use Rattle.std.proofs.Math.Seq.{get_or-append_seam}
use Rattle.std.proofs.lemmas.Bool.{cases_lt}
use Rattle.std.proofs.lemmas.List.{length-append, length-map, length_push, map-append}
use Rattle.ordup_objects.specs.declared.change.Change.{Change}
use Rattle.ordup_objects.specs.States.{State, IsState}
use Rattle.ordup_objects.specs.Sets.{IsSet}
use Rattle.ordup_objects.specs.Serial.{History, with_more, IsLegalHistory}
use Rattle.ordup_objects.proofs.SerialLemmas.{serial-longer, IsLegalHistory-longer}
use Rattle.ordup_primary.specs.Parcels.{MayFollow}
use Rattle.ordup_feed.specs.Parcels.{PlainParcel, history_of, AreInOrder, IsNext}

-- the beginning of a legal history is legal
legal-front : (h : History) (more : List (List Change)) → IsLegalHistory (with_more h more) → IsLegalHistory h
legal-front h more is = record {
  start = is.start;
  sets = λ k d lt. rw (get_or-append h.sets more d k lt) at (is.sets k d (omega (arith, length-append h.sets more)));
  known = λ k d lt. rw (get_or-append h.sets more d k lt) at (is.known k d (omega (arith, length-append h.sets more)));
  legal = λ k lt.
      rw (get_or-append h.sets more [] k lt, serial-longer h more k (omega arith)) at
      (is.legal k (omega (arith, length-append h.sets more)));
}

-- the update after the beginning of a legal history may follow it
legal-next : (h : History) (m : List Change) (more : List (List Change)) (number : ℕ) → IsLegalHistory (with_more h (m ∷ more))
    → number ≡ length h.sets + 1 → number ≤ 1000000 → MayFollow h number m
legal-next h m more number is next few =
    let inside : length h.sets < length (h.sets ++ m ∷ more) = omega (arith, length-append h.sets (m ∷ more)) in
    record {
      next = next;
      few = few;
      known = rw (get_or-append_seam h.sets m more []) at (is.known (length h.sets) [] inside);
      legal =
          rw (get_or-append_seam h.sets m more [], serial-longer h (m ∷ more) (length h.sets) (omega arith)) at
          (is.legal (length h.sets) inside);
    }

-- no parcels
pub in-order-none : (v : State) → IsState v → AreInOrder v []
in-order-none v is = search rules

-- one parcel more at the back
pub in-order-push : (v : State) (ps : List PlainParcel) (p : PlainParcel) → AreInOrder v ps → IsNext v ps p → IsSet p.set
    → AreInOrder v (ps ++ p ∷ [])
in-order-push v ps p is next set =
    let count : length (map (λ (q : PlainParcel). q.set) ps) ≡ length ps = length-map ps (λ (q : PlainParcel). q.set) in
    let number : p.number ≡ length ps + 1 = omega (arith, next.next, count) in
    record {
      numbers = λ i d lt. elim (cases_lt i (length ps)) [
        | inl before ↦ rw (get_or-append ps (p ∷ []) d i before) (is.numbers i d before)
        | inr past ↦ (let at : i ≡ length ps = omega (arith, length_push ps p) in
            rw (at, get_or-append_seam ps p [] d) number)
      ];
      few = omega (arith, length_push ps p, number, next.few);
      legal =
          rw (map-append (λ (q : PlainParcel). q.set) ps (p ∷ []))
          (IsLegalHistory-longer (history_of v ps) p.set is.legal set next.known next.legal);
    }

-- the first of them
pub in-order-front : (v : State) (ps qs : List PlainParcel) → AreInOrder v (ps ++ qs) → AreInOrder v ps
in-order-front v ps qs is = record {
  numbers = λ i d lt. rw (get_or-append ps qs d i lt) at (is.numbers i d (omega (arith, length-append ps qs)));
  few = let few = is.few in omega (arith, length-append ps qs);
  legal =
      legal-front (history_of v ps) (map (λ (q : PlainParcel). q.set) qs)
      (rw (map-append (λ (q : PlainParcel). q.set) ps qs) at is.legal);
}

-- the one after the first of them
pub in-order-next : (v : State) (ps : List PlainParcel) (p : PlainParcel) (qs : List PlainParcel) → AreInOrder v (ps ++ p ∷ qs)
    → IsNext v ps p
in-order-next v ps p qs is =
    let count : length (map (λ (q : PlainParcel). q.set) ps) ≡ length ps = length-map ps (λ (q : PlainParcel). q.set) in
    let inside : length ps < length (ps ++ p ∷ qs) = omega (arith, length-append ps (p ∷ qs)) in
    let number : p.number ≡ length ps + 1 = rw (get_or-append_seam ps p qs p) at (is.numbers (length ps) p inside) in
    let few = is.few in
    legal-next (history_of v ps) p.set (map (λ (q : PlainParcel). q.set) qs) p.number
    (rw (map-append (λ (q : PlainParcel). q.set) ps (p ∷ qs)) at is.legal)
    (omega (arith, number, count)) (omega (arith, number, inside))
