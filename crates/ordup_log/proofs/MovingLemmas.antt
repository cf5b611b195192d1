-- The moves of the updates of a log, and what they weigh.
use Rattle.std.proofs.Common.{◌≡◌, ℕ, zero, suc, ◌+◌, ◌-◌, ◌*◌, ◌<◌, ◌≤◌, ◌^◌, false, sum, sum_by}
use Rattle.std.proofs.Common.{List, [], ◌∷◌, ◌++◌, length, take, drop, get_or}
use Rattle.std.proofs.Common.{arith, refl, sym, ap, ◌∙◌, inl, inr}
use Rattle.std.specs.Prelude.{◌==◌, All}
use Rattle.std.specs.List.{list_any}
use Rattle.std.proofs.Math.ListN.{get_or-append}
use Rattle.std.proofs.Math.Seq.{drop-append_seam, take-append_seam}
use Rattle.std.proofs.lemmas.Bool.{cases_Bool, cases_lt, or_parts, eqb-true, eq-eqb}
use Rattle.std.proofs.lemmas.List.{append_assoc, append-nil, append_cancel_left, length-append, length-map}
use Rattle.std.proofs.lemmas.List.Elements.{All-nil, All-cons}
use Rattle.std.proofs.lemmas.List.Sums.{sum_by-cons, sum_by-append, sum_by-drop_more}
use Rattle.ordup_objects.specs.declared.change.Change.{Change}
use Rattle.ordup_objects.specs.declared.moved.Moved.{Moved}
use Rattle.ordup_objects.specs.Sizes.{most_changes}
use Rattle.ordup_objects.specs.States.{State}
use Rattle.ordup_objects.specs.Repeats.{repeats}
use Rattle.ordup_objects.specs.Sets.{are_of_one_object}
use Rattle.ordup_objects.specs.Serial.{History, serial, set_at, with_more, IsLegalHistory}
use Rattle.ordup_objects.specs.Weights.{object_weight, object_span, distance_by, distances_of, distance_beside}
use Rattle.ordup_objects.specs.Moves.{moved_by, moves_of}
use Rattle.ordup_objects.proofs.SerialLemmas.{serial-longer}
use Rattle.ordup_objects.proofs.SpanLemmas.{object_span-suc, object_span-add}
use Rattle.ordup_log.specs.Moving.{moves_below, distance_on, distance_of}
use Rattle.ordup_log.specs.Spans.{weight, span}
use Rattle.ordup_log.specs.declared.scope.Scope.TheVariants.{All as Everything}
use Rattle.ordup_log.proofs.SpanLemmas.{span-suc, span-add}
use Rattle.ordup_log.proofs.WeightLemmas.{distance_beside-at, sum-at}

-- ---- what the moves of a set weigh

-- nothing on an object that is not changed
on-none : (v : State) (m : List Change) (x : ℕ) → list_any (λ d. d.object == x) m ≡ false → sum_by (distance_on x) (moves_of v m) ≡ 0
on-none v [] x none = refl
on-none v (c ∷ m) x none =
    let both : (c.object == x) ≡ false × list_any (λ d. d.object == x) m ≡ false = or_parts _ _ none in
    let here : distance_on x (moved_by v c) ≡ 0 = rw both.0 refl in
    omega (arith, here, sum_by-cons (distance_on x) (moved_by v c) (moves_of v m), on-none v m x both.1)

-- and on each object the distance of its change
on-beside : (v : State) (m : List Change) (x : ℕ) → repeats are_of_one_object m ≡ false
    → sum_by (distance_on x) (moves_of v m) ≡ distance_beside m (distances_of v m) x
on-beside v [] x distinct = refl
on-beside v (c ∷ m) x distinct =
    let apart : list_any (λ d. d.object == c.object) m ≡ false × repeats are_of_one_object m ≡ false = or_parts _ _ distinct in
    let more = sum_by-cons (distance_on x) (moved_by v c) (moves_of v m) in
    elim (cases_Bool (c.object == x)) [
      | inl e ↦ (let at : c.object ≡ x = eqb-true c.object x e in
          let none : list_any (λ d. d.object == x) m ≡ false = rw at at apart.0 in
          let here : distance_on x (moved_by v c) ≡ distance_by v c = rw e refl in
          rw e (omega (arith, here, more, on-none v m x none)))
      | inr e ↦ (let here : distance_on x (moved_by v c) ≡ 0 = rw e refl in
          rw e (omega (arith, here, more, on-beside v m x apart.1)))
    ]

-- on all objects the sum of the distances
all-beside : (v : State) (m : List Change) → sum_by distance_of (moves_of v m) ≡ sum (distances_of v m)
all-beside v [] = refl
all-beside v (c ∷ m) =
    omega (
      arith,
      sum_by-cons distance_of (moved_by v c) (moves_of v m),
      sum_by-cons (λ (d : ℕ). d) (distance_by v c) (distances_of v m),
      all-beside v m,
    )

-- the moves are on objects that are there
pub known-moves : (v : State) (m : List Change) (n : ℕ) → All (λ c. c.object < n) m → All (λ d. d.object < n) (moves_of v m)
known-moves v [] n known = All-nil (λ d. d.object < n)
known-moves v (c ∷ m) n known =
    All-cons (λ d. d.object < n) (moved_by v c) (moves_of v m) (known 0 c (omega arith))
    (known-moves v m n (λ k d h. known (suc k) d (omega arith)))

-- ---- what the moves of an update weigh

pub on-at : (h : History) → IsLegalHistory h → (x j : ℕ) → j < length h.sets
    → sum_by (distance_on x) (moves_of (serial h j) (get_or h.sets j [])) ≡ object_weight h x j
on-at h legal x j lt = on-beside (serial h j) (get_or h.sets j []) x (legal.sets j [] lt).distinct ∙ distance_beside-at h legal x j lt

-- as its list of moves has them
pub on-moves : (h : History) → IsLegalHistory h → (x j : ℕ) (ms : List Moved) → j < length h.sets
    → ms ≡ moves_of (serial h (j + 1 - 1)) (set_at h (j + 1)) → sum_by (distance_on x) ms ≡ object_weight h x j
on-moves h legal x j ms lt are =
    let at : j + 1 - 1 ≡ j = omega arith in
    rw (are, at) (on-at h legal x j lt)

all-at : (h : History) → IsLegalHistory h → (j : ℕ) → j < length h.sets
    → sum_by distance_of (moves_of (serial h j) (get_or h.sets j [])) ≡ weight h [] Everything j
all-at h legal j lt = all-beside (serial h j) (get_or h.sets j []) ∙ sum-at h legal j lt

-- ---- what the moves of the first updates weigh

on-below : (h : History) → IsLegalHistory h → (x p : ℕ) → p ≤ length h.sets → sum_by (distance_on x) (moves_below h p) ≡ object_span h x 0 p
on-below h legal x zero le = refl
on-below h legal x (suc p) le =
    omega (
      arith,
      sum_by-append (distance_on x) (moves_below h p) (moves_of (serial h p) (get_or h.sets p [])),
      on-below h legal x p (omega arith),
      on-at h legal x p (omega arith),
      object_span-suc h x p,
    )

all-below : (h : History) → IsLegalHistory h → (p : ℕ) → p ≤ length h.sets → sum_by distance_of (moves_below h p) ≡ span h [] Everything 0 p
all-below h legal zero le = refl
all-below h legal (suc p) le =
    omega (
      arith,
      sum_by-append distance_of (moves_below h p) (moves_of (serial h p) (get_or h.sets p [])),
      all-below h legal p (omega arith),
      all-at h legal p (omega arith),
      span-suc h [] Everything p,
    )

-- the moves between two places weigh what the second weighs more than the first
pub on-between : (h : History) → IsLegalHistory h → (x a b : ℕ) (ms : List Moved) → a ≤ b → b ≤ length h.sets
    → moves_below h a ++ ms ≡ moves_below h b → object_span h x 0 a + sum_by (distance_on x) ms ≡ object_span h x 0 b
on-between h legal x a b ms forward last e =
    omega (
      arith,
      ap (sum_by (distance_on x)) e,
      sum_by-append (distance_on x) (moves_below h a) ms,
      on-below h legal x a (omega arith),
      on-below h legal x b last,
    )

pub all-between : (h : History) → IsLegalHistory h → (a b : ℕ) (ms : List Moved) → a ≤ b → b ≤ length h.sets
    → moves_below h a ++ ms ≡ moves_below h b → span h [] Everything 0 a + sum_by distance_of ms ≡ span h [] Everything 0 b
all-between h legal a b ms forward last e =
    omega (
      arith,
      ap (sum_by distance_of) e,
      sum_by-append distance_of (moves_below h a) ms,
      all-below h legal a (omega arith),
      all-below h legal b last,
    )

-- which is the span from the first to the second
pub on-part : (h : History) → IsLegalHistory h → (x a b : ℕ) (ms : List Moved) → a ≤ b → b ≤ length h.sets
    → moves_below h a ++ ms ≡ moves_below h b → sum_by (distance_on x) ms ≡ object_span h x a b
on-part h legal x a b ms forward last e = omega (arith, on-between h legal x a b ms forward last e, object_span-add h x a b forward)

pub all-part : (h : History) → IsLegalHistory h → (a b : ℕ) (ms : List Moved) → a ≤ b → b ≤ length h.sets
    → moves_below h a ++ ms ≡ moves_below h b → sum_by distance_of ms ≡ span h [] Everything a b
all-part h legal a b ms forward last e = omega (arith, all-between h legal a b ms forward last e, span-add h [] Everything a b forward)

-- ---- where moves lie in the list

-- an update has at most so many
pub length-below : (h : History) → IsLegalHistory h → (k : ℕ) → k ≤ length h.sets → length (moves_below h k) ≤ most_changes * k
length-below h legal zero le = omega arith
length-below h legal (suc k) le =
    omega (
      arith,
      length-append (moves_below h k) (moves_of (serial h k) (get_or h.sets k [])),
      length-map (get_or h.sets k []) (moved_by (serial h k)),
      (legal.sets k [] (omega arith)).few,
      length-below h legal k (omega arith),
    )

-- those of the first updates stand at the front of those of more
pub front : (h : History) (b n : ℕ) → b ≤ n → (rest : List Moved) × (moves_below h b ++ rest ≡ moves_below h n)
front h b zero le = let at : b ≡ 0 = omega arith in rw at ([], refl)
front h b (suc n) le = elim (cases_lt b (suc n)) [
  | inl lt ↦ (let before = front h b n (omega arith) in
      let last = moves_of (serial h n) (get_or h.sets n []) in
      (before.0 ++ last, sym (append_assoc (moves_below h b) before.0 last) ∙ ap (λ ms. ms ++ last) before.1))
  | inr ge ↦ (let at : b ≡ suc n = omega arith in ([], append-nil (moves_below h b) ∙ ap (moves_below h) at))
]

-- the part of a list between two of its fronts
between : (a b all r s : List Moved) → a ++ r ≡ b → b ++ s ≡ all → a ++ take (length b - length a) (drop (length a) all) ≡ b
between a b all r s e f =
    let whole : all ≡ a ++ (r ++ s) = sym f ∙ ap (λ xs. xs ++ s) (sym e) ∙ append_assoc a r s in
    let len : length b - length a ≡ length r = omega (arith, ap length e, length-append a r) in
    rw (len, whole, drop-append_seam a (r ++ s), take-append_seam r s) e

-- the moves between two places are a part of those of all updates
pub between-is : (h : History) (all : List Moved) (a b n from to : ℕ) → a ≤ b → b ≤ n → all ≡ moves_below h n
    → from ≡ length (moves_below h a) → to ≡ length (moves_below h b)
    → moves_below h a ++ take (to - from) (drop from all) ≡ moves_below h b
between-is h all a b n from to forward last is begin end =
    let first = front h a b forward in
    let second = front h b n last in
    rw (begin, end, is) (between (moves_below h a) (moves_below h b) (moves_below h n) first.0 second.0 first.1 second.1)

pub begins-rise : (h : History) (a b : ℕ) → a ≤ b → length (moves_below h a) ≤ length (moves_below h b)
begins-rise h a b le =
    let more = front h a b le in
    omega (arith, ap length more.1, length-append (moves_below h a) more.0)

-- those of one update
pub moves-are : (h : History) (k : ℕ) (ms : List Moved) → 0 < k → moves_below h (k - 1) ++ ms ≡ moves_below h k
    → ms ≡ moves_of (serial h (k - 1)) (set_at h k)
moves-are h zero ms first e = absurd (omega (arith, first))
moves-are h (suc k) ms first e =
    let at : suc k - 1 ≡ k = omega arith in
    rw at (append_cancel_left (moves_below h k) ms (moves_of (serial h k) (get_or h.sets k [])) (rw at at e))

-- updates that are added later leave the moves as they were
pub below-longer : (h : History) (more : List (List Change)) (k : ℕ) → k ≤ length h.sets
    → moves_below (with_more h more) k ≡ moves_below h k
below-longer h more zero le = refl
below-longer h more (suc k) le =
    rw (below-longer h more k (omega arith), serial-longer h more k (omega arith), get_or-append h.sets more [] k (omega arith)) refl

-- ---- objects that travel by moves

-- a move that is still to come fits, where all that are to come do
pub travel-fits : (ts : List ℕ) (ms : List Moved) (i x here : ℕ) (m : Moved) → i < length ms → m ≡ get_or ms i m → x ≡ m.object
    → here ≡ get_or ts x 0 → get_or ts x 0 + sum_by (distance_on x) (drop i ms) < 2 ^ 64 → here + m.distance < 2 ^ 64
travel-fits ts ms i x here m lt is at now fits =
    let on : distance_on x m ≡ m.distance = rw (eq-eqb m.object x (sym at)) refl in
    omega (arith, fits, now, on, sum_by-drop_more (distance_on x) ms i m lt, ap (distance_on x) is)
