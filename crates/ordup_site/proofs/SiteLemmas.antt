-- What a site applied.
use Rattle.std.proofs.Common.{◌≡◌, ℕ, suc, ◌+◌, ◌-◌, ◌<◌, List, [], ◌∷◌}
use Rattle.std.proofs.Common.{◌++◌, length, length-append, get_or, take, arith, refl}
use Rattle.std.proofs.Common.{sym, ap, ◌∙◌}
use Rattle.std.proofs.Math.Seq.{take-append_seam}
use Rattle.std.proofs.lemmas.List.{length_push, get_or_push}
use Rattle.ordup_objects.specs.declared.change.Change.{Change}
use Rattle.ordup_objects.specs.States.{State, value_at, after}
use Rattle.ordup_objects.specs.Serial.{History, serial, set_at, with_update}
use Rattle.ordup_objects.specs.Weights.{distance, object_weight}
use Rattle.ordup_site.specs.Sites.{SiteState, travelled_at, HasApplied, LongerHistoriesKeepWhatWasApplied}
use Rattle.ordup_site.specs.Travelling.{Moves}
use Rattle.ordup_objects.proofs.SerialLemmas.{serial-suc, serial-longer}
use Rattle.ordup_objects.proofs.SpanLemmas.{object_span-suc, object_span-longer}

-- what a site applied of a history it applied of each longer one
pub HasApplied-longer : LongerHistoriesKeepWhatWasApplied
HasApplied-longer s h j more is = record {
  within = simp length-append (omega (arith, is.within));
  applied = is.applied;
  values = is.values ∙ sym (serial-longer h more j is.within);
  travelled = λ x. is.travelled x ∙ sym (object_span-longer h more x 0 j is.within);
}

-- one step: what a set makes of a site
pub record IsStep (s t : SiteState) (m : List Change) : Type 0 where
  pub applied : t.applied ≡ s.applied + 1
  pub values : t.values ≡ after m s.values
  pub travelled : (x : ℕ) → travelled_at t x ≡ travelled_at s x + distance (value_at t.values x) (value_at s.values x)

-- values that a set moved are a step, with what they travelled written over the elements of a vector
pub IsStep-moved : (s : SiteState) (m : List Change) (w : State) (us rest : List ℕ) (n : ℕ) → Moves m s.values s.travelled w us
    → n ≡ length s.travelled
    → (let t : SiteState = record { applied = s.applied + 1; values = w; travelled = take n (us ++ rest) } in IsStep s t m)
IsStep-moved s m w us rest n moves count =
    let same : n ≡ length us = count ∙ sym moves.count in
    rw (same, take-append_seam) (record { applied = refl; values = moves.values; travelled = moves.travelled })

-- one update more of a history
pub HasApplied-next : (s t : SiteState) (m : List Change) → IsStep s t m → (h : History) (j : ℕ) → HasApplied s h j
    → j < length h.sets → m ≡ set_at h (j + 1) → HasApplied t h (j + 1)
HasApplied-next s t m step h j is lt next =
    let e : j + 1 ≡ suc j = omega arith in
    let place : j + 1 - 1 ≡ j = omega arith in
    let set : m ≡ get_or h.sets j [] = next ∙ ap (λ k. get_or h.sets k []) place in
    let values : t.values ≡ serial h (suc j) = step.values ∙ rw (set, is.values) (sym (serial-suc h j lt)) in
    rw e (record {
      within = omega arith;
      applied = omega (arith, step.applied, is.applied);
      values = values;
      travelled = λ x.
          let weight : distance (value_at t.values x) (value_at s.values x) ≡ object_weight h x j =
          ap (λ v. distance (value_at v x) (value_at s.values x)) values
          ∙ ap (λ v. distance (value_at (serial h (suc j)) x) (value_at v x)) is.values in
          omega (arith, step.travelled x, is.travelled x, weight, object_span-suc h x j);
    })

-- the set is the last of those that the site applied
pub HasApplied-last : (s t : SiteState) (m : List Change) → IsStep s t m → (h : History) → HasApplied s h (length h.sets)
    → HasApplied t (with_update h m) (length h.sets + 1)
HasApplied-last s t m step h is =
    HasApplied-next s t m step (with_update h m) (length h.sets) (HasApplied-longer s h (length h.sets) (m ∷ []) is)
    (omega (arith, length_push h.sets m))
    (sym (get_or_push h.sets m [] (length h.sets + 1 - 1) (omega arith)))
