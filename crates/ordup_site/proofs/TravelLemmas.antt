-- What values travel by a set.
use Rattle.std.proofs.Common.{◌≡◌, ℕ, suc, ◌+◌, ◌*◌, ◌<◌, ◌≤◌, true, false}
use Rattle.std.proofs.Common.{List, [], ◌∷◌, length, get_or, arith, refl, sym, ap, ◌∙◌, inl, inr}
use Rattle.std.specs.Prelude.{All, ◌==◌}
use Rattle.std.specs.List.{list_any, slice_set}
use Rattle.std.proofs.Math.ListN.{length-set}
use Rattle.std.proofs.lemmas.Bool.{or_parts, eqb-false, eqb-true, cases_Bool, cases_lt}
use Rattle.std.proofs.lemmas.List.{get_or-set_other, get_or_past}
use Rattle.std.proofs.lemmas.Grind.{get_or-set_at}
use Rattle.std.proofs.lemmas.List.Elements.{All-set, All-weaker}
use Rattle.ordup_objects.specs.Sizes.{greatest_distance, most_updates}
use Rattle.ordup_objects.specs.declared.change.Change.{Change}
use Rattle.ordup_objects.specs.States.{State, value_at, after, is_legal, IsState}
use Rattle.ordup_objects.specs.Repeats.{repeats}
use Rattle.ordup_objects.specs.Sets.{are_of_one_object, IsSet, AreKnown}
use Rattle.ordup_objects.specs.Weights.{distance, distances_of}
use Rattle.ordup_objects.proofs.SetLemmas.{moved_by, distance-after, distance_beside-distances_of, distance_beside-few, distances_of-few}
use Rattle.ordup_site.specs.Travelling.{Moves, travelled_on}

-- a number of a list of small numbers is small, past its end too
pub bounded_at : (ts : List ℕ) (x most : ℕ) → All (λ t. t ≤ most) ts → get_or ts x 0 ≤ most
bounded_at ts x most bounded =
    elim (cases_lt x (length ts)) [ inl lt ↦ bounded x 0 lt | inr le ↦ rw (get_or_past ts x 0 le) (omega arith) ]

-- what values travelled stays small on the way
pub few_more : (ts : List ℕ) (x moved i : ℕ) → All (λ t. t ≤ greatest_distance * most_updates + greatest_distance * i) ts
    → moved ≤ greatest_distance
    → All (λ t. t ≤ greatest_distance * most_updates + greatest_distance * (i + 1)) (slice_set ts x (get_or ts x 0 + moved))
few_more ts x moved i few small =
    let here : get_or ts x 0 ≤ greatest_distance * most_updates + greatest_distance * i =
    bounded_at ts x (greatest_distance * most_updates + greatest_distance * i) few in
    All-set (λ t. t ≤ greatest_distance * most_updates + greatest_distance * (i + 1)) ts x (get_or ts x 0 + moved) (omega arith)
    (All-weaker (λ t. t ≤ greatest_distance * most_updates + greatest_distance * i)
    (λ t. t ≤ greatest_distance * most_updates + greatest_distance * (i + 1)) (λ t le. omega arith) ts few)

-- changes of other objects leave this one where it was
others_stay : (v : State) (m : List Change) (ts : List ℕ) (x : ℕ) → list_any (λ c. c.object == x) m ≡ false
    → get_or (travelled_on v m ts) x 0 ≡ get_or ts x 0
others_stay v [] ts x none = refl
others_stay v (c ∷ m) ts x none =
    let both : (c.object == x) ≡ false × list_any (λ d. d.object == x) m ≡ false = or_parts _ _ none in
    others_stay v m _ x both.1 ∙ get_or-set_other ts c.object x _ 0 (λ e. eqb-false c.object x both.0 (sym e))

-- how far an object travels
moved_one : (v : State) (m : List Change) (ts : List ℕ) (x : ℕ) → repeats are_of_one_object m ≡ false
    → All (λ c. c.object < length ts) m → get_or (travelled_on v m ts) x 0 ≡ get_or ts x 0 + moved_by v m x
moved_one v [] ts x distinct known = omega arith
moved_one v (c ∷ m) ts x distinct known =
    let apart : list_any (λ d. d.object == c.object) m ≡ false × repeats are_of_one_object m ≡ false = or_parts _ _ distinct in
    elim (cases_Bool (c.object == x)) [
      | inl e ↦ (let here : c.object ≡ x = eqb-true c.object x e in
          let none : list_any (λ d. d.object == x) m ≡ false = rw here at apart.0 in
          rw e
          (others_stay v m _ x none ∙ get_or-set_at ts c.object x _ 0 (sym here) (known 0 c (omega arith)) ∙ rw here refl))
      | inr e ↦ rw e (moved_one v m _ x apart.1 (λ k d h. rw length-set (known (suc k) d (omega arith)))
          ∙ ap (λ t. t + moved_by v m x) (get_or-set_other ts c.object x _ 0 (λ f. eqb-false c.object x e (sym f))))
    ]

-- by a set each value travels as far as it moves
travelled_on-after : (v : State) (m : List Change) (ts : List ℕ) (x : ℕ) → repeats are_of_one_object m ≡ false
    → AreKnown (length v) m → length ts ≡ length v
    → get_or (travelled_on v m ts) x 0 ≡ get_or ts x 0 + distance (value_at (after m v) x) (value_at v x)
travelled_on-after v m ts x distinct known same =
    rw (distance-after v m x distinct known)
    (moved_one v m ts x distinct (λ k d h. let lt = (known k d h).0 in omega arith))

-- as many objects as before
length-travelled_on : (v : State) (m : List Change) (ts : List ℕ) → length (travelled_on v m ts) ≡ length ts
length-travelled_on v [] ts = refl
length-travelled_on v (c ∷ m) ts = length-travelled_on v m _ ∙ length-set ts c.object _

-- a legal set moves a value by no more than the range is wide
distance-few : (v : State) (m : List Change) (x : ℕ) → IsSet m → AreKnown (length v) m → IsState v → is_legal m v ≡ true
    → distance (value_at (after m v) x) (value_at v x) ≤ greatest_distance
distance-few v m x is known state legal =
    omega (
      arith,
      distance-after v m x is.distinct known,
      distance_beside-distances_of v m x,
      distance_beside-few m (distances_of v m) x (distances_of-few v m state legal),
    )

-- a legal set that was applied to the values, and what they travelled by it
pub Moves-applied : (m : List Change) (v w : State) (ts us : List ℕ) → IsSet m → AreKnown (length v) m → is_legal m v ≡ true
    → IsState v → length ts ≡ length v → w ≡ after m v → length w ≡ length v → us ≡ travelled_on v m ts → Moves m v ts w us
Moves-applied m v w ts us is known legal state same e objects moved = record {
  values = e;
  objects = objects;
  travelled = λ x. rw (moved, e) (travelled_on-after v m ts x is.distinct known same);
  few = λ x. rw e (distance-few v m x is known state legal);
  count = ap length moved ∙ length-travelled_on v m ts;
}
