-- Sites that apply what was taken, and logs that are applied again.
use Rattle.std.proofs.Common.{◌≡◌, ℕ, ◌+◌, ◌-◌, ◌<◌, List, [], ◌∷◌, ◌++◌, length, sym, ap, ◌∙◌, arith}
use Rattle.std.proofs.lemmas.List.{length-map, length_push, map-append}
use Rattle.ordup_objects.specs.States.{State}
use Rattle.ordup_objects.specs.Sets.{AreKnown}
use Rattle.ordup_objects.specs.Serial.{History, serial, set_at, with_update, IsLegalHistory}
use Rattle.ordup_objects.proofs.SerialLemmas.{length-serial}
use Rattle.ordup_site.specs.Sites.{SiteState, HasApplied}
use Rattle.ordup_feed.specs.Parcels.{PlainParcel, history_of}

-- there are as many sets as parcels
pub parcels-count : (start : State) (ps : List PlainParcel) → length (history_of start ps).sets ≡ length ps
parcels-count start ps = length-map ps (λ (p : PlainParcel). p.set)

-- a site has as many values as the initial state
pub values-count : (s : SiteState) (h : History) (j : ℕ) → HasApplied s h j → length s.values ≡ length h.start
values-count s h j held = ap length held.values ∙ length-serial h j held.within

-- one parcel more is taken and applied
pub taken-more : (s t : SiteState) (start : State) (ps : List PlainParcel) (p : PlainParcel)
    → HasApplied s (history_of start ps) (length ps)
    → ((h : History) → HasApplied s h (length h.sets) → HasApplied t (with_update h p.set) (length h.sets + 1))
    → HasApplied t (history_of start (ps ++ p ∷ [])) (length (ps ++ p ∷ []))
taken-more s t start ps p held last =
    let count = parcels-count start ps in
    let all : length ps ≡ length (history_of start ps).sets = sym count in
    let next : length (history_of start ps).sets + 1 ≡ length (ps ++ p ∷ []) = omega (arith, count, length_push ps p) in
    rw (map-append (λ (q : PlainParcel). q.set) ps (p ∷ []), ← next) (last (history_of start ps) (rw (← all) held))

-- an update of a legal log changes and reads objects that are there
pub known-at : (h : History) (v : State) (k : ℕ) → IsLegalHistory h → k < length h.sets → v ≡ serial h k
    → AreKnown (length v) (set_at h (k + 1))
known-at h v k is lt at =
    let count : length h.start ≡ length v = sym (ap length at ∙ length-serial h k (omega arith)) in
    let place : k ≡ k + 1 - 1 = omega arith in
    rw (← place, ← count) (is.known k [] lt)
