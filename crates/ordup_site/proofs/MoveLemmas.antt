-- What the moves of a set make of the values and of what these travelled.
use Rattle.std.proofs.Common.{◌≡◌, ℕ, ℤ, zero, suc, ◌+◌, ◌<◌, ◌≤◌, Bool, true, List, [], ◌∷◌, ◌++◌, length, get_or, take, drop, drop-cons}
use Rattle.std.proofs.Common.{add-one, arith, refl, sym, ap, pos, ◌∙◌}
use Rattle.std.specs.Prelude.{Result, Ok, Err, OnOk, is_ok}
use Rattle.std.proofs.lemmas.Bool.{and_parts, leb-true, false≢true}
use Rattle.std.proofs.lemmas.List.{take_more_set}
use Rattle.std.proofs.lemmas.List.Folds.{fold-map}
use Rattle.std.specs.List.{fold, slice_set}
use Rattle.ordup_objects.specs.Sizes.{greatest_distance}
use Rattle.ordup_objects.specs.declared.change.Change.{Change}
use Rattle.ordup_objects.specs.declared.moved.Moved.{Moved}
use Rattle.ordup_objects.specs.States.{State, value_at, after, is_legal, AreResults, IsState, IsInRange}
use Rattle.ordup_objects.specs.Sets.{AreKnown}
use Rattle.ordup_objects.specs.Moves.{moved_by, moves_of}
use Rattle.ordup_objects.specs.Weights.{distance}
use Rattle.ordup_objects.proofs.SetLemmas.{distances_of-few}
use Rattle.ordup_objects.proofs.MoveLemmas.{moves_of-more}
use Rattle.ordup_site.specs.Travelling.{Moves, travelled_on}
use Rattle.ordup_site.specs.Sites.{AreMovesOf}
use Rattle.ordup_site.proofs.TravelLemmas.{Moves-applied}

-- the value of each move in the place of its object's
abbrev pub moved_to : List Moved → State → State
moved_to ds v = fold (λ w d. slice_set w d.object d.value) v ds

-- each moved object travelled on, as far as it moved
abbrev pub travelled_by : List Moved → List ℕ → List ℕ
travelled_by ds ts = fold (λ us d. slice_set us d.object (get_or us d.object 0 + d.distance)) ts ds

-- a move on these values: its object is there, and its value and its way are no greater than values allow
pub record IsMoveOn (v : State) (d : Moved) : Type 0 where
  pub known : d.object < length v
  pub range : IsInRange d.value
  pub near : d.distance ≤ greatest_distance

move-at : (v : State) (m : List Change) (i : ℕ) (d : Moved) → IsState v → AreKnown (length v) m → is_legal m v ≡ true
    → i < length (moves_of v m) → d ≡ get_or (moves_of v m) i d → IsMoveOn v d
move-at v [] i d state known legal lt is = absurd (omega (arith, lt))
move-at v (c ∷ m) zero d state known legal lt is = rw is (record {
  known = (known 0 c (omega arith)).0;
  range = leb-true _ _ (and_parts _ _ legal).0;
  near = distances_of-few v (c ∷ m) state legal 0 0 (omega arith);
})
move-at v (c ∷ m) (suc i) d state known legal lt is =
    move-at v m i d state (λ k e h. known (suc k) e (omega arith)) (and_parts _ _ legal).1 (omega (arith, lt)) is

-- each of the moves of a set is a move on the values
pub IsMoveOn-at : (v : State) (m : List Change) (ds : List Moved) (i : ℕ) (d : Moved) → AreMovesOf v m ds → IsState v
    → i < length ds → d ≡ get_or ds i d → IsMoveOn v d
IsMoveOn-at v m ds i d are state lt is =
    move-at v m i d state are.known are.legal (rw are.moves at lt) (is ∙ ap (λ x. get_or x i d) are.moves)

-- the next move
pub next_move : (ds : List Moved) (i : ℕ) (d : Moved) → i < length ds → d ≡ get_or ds i d → drop i ds ≡ d ∷ drop (i + 1) ds
next_move ds i d lt is = rw (add-one) (drop-cons ds i d lt) ∙ ap (λ x. x ∷ drop (i + 1) ds) (sym is)

-- one move further on
pub moved_to-more : (ds rest : List Moved) (d : Moved) (w : State) (z : ℤ) → ds ≡ d ∷ rest → z ≡ d.value
    → moved_to rest (slice_set w d.object z) ≡ moved_to ds w
moved_to-more ds rest d w z next value = rw (next, value) refl

pub travelled_by-more : (ds rest : List Moved) (d : Moved) (ts : List ℕ) (x n : ℕ) → ds ≡ d ∷ rest → x ≡ d.object → n ≡ d.distance
    → travelled_by rest (slice_set ts x (get_or ts x 0 + n)) ≡ travelled_by ds ts
travelled_by-more ds rest d ts x n next object distance = rw (next, object, distance) refl

-- by the moves of a set the values are those after it
moved_to-after : (v : State) (m : List Change) → moved_to (moves_of v m) v ≡ after m v
moved_to-after v m = fold-map (λ w (d : Moved). slice_set w d.object d.value) (moved_by v) v m

travelled_by-on : (v : State) (m : List Change) (ts : List ℕ) → travelled_by (moves_of v m) ts ≡ travelled_on v m ts
travelled_by-on v [] ts = refl
travelled_by-on v (c ∷ m) ts = travelled_by-on v m _

-- the moves of a set that were put down are what the set moves
pub Moves-put : (v w : State) (ts us : List ℕ) (m : List Change) (ds : List Moved) → AreMovesOf v m ds → IsState v
    → length ts ≡ length v → length w ≡ length v → w ≡ moved_to ds v → us ≡ travelled_by ds ts → Moves m v ts w us
Moves-put v w ts us m ds are state same objects values travelled =
    Moves-applied m v w ts us are.set are.known are.legal state same
    (values ∙ ap (λ x. moved_to x v) are.moves ∙ moved_to-after v m) objects
    (travelled ∙ ap (λ x. travelled_by x ts) are.moves ∙ travelled_by-on v m ts)

-- the results of a set are those of a legal one
pub results-legal : {T E P : Type 0} {legal : Bool} (r : Result T E) → is_ok r ≡ legal → legal ≡ true → OnOk r P → P
results-legal (Ok done) is legal are = are
results-legal (Err e) is legal are = absurd (false≢true (is ∙ legal))

-- one move more in the place of the first of a list, by the result of its change
pub moves_of-computed : (v : State) (m : List Change) (results : List ℤ) (ds : List Moved) (i n : ℕ) (r : ℤ) (c : Change)
    → i < length m → i < length ds → AreResults v m results → c ≡ get_or m i c → r ≡ get_or results i (pos 0)
    → n ≡ distance r (value_at v c.object) → take i ds ≡ moves_of v (take i m)
    → take (i + 1) (slice_set ds i (record { object = c.object; value = r; distance = n })) ≡ moves_of v (take (i + 1) m)
moves_of-computed v m results ds i n r c lt spare are same at is so_far =
    take_more_set ds i _ spare ∙ ap (λ xs. xs ++ record { object = c.object; value = r; distance = n } ∷ []) so_far
    ∙ moves_of-more v m results i n r c lt are same at is
