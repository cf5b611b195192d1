-- Lists with an element that is put in.
use Rattle.std.proofs.Common.{◌≡◌, ℕ, zero, suc, ◌+◌, ◌-◌, ◌<◌, ◌≤◌, Bool, true, false, List, [], ◌∷◌, ◌++◌, length, length-drop, drop, take, get_or, option_map}
use Rattle.std.proofs.Common.{arith, refl, sym, ap, ◌∙◌, inl, inr}
use Rattle.std.specs.Prelude.{All, Some, None, not, nat_le, nat_lt}
use Rattle.std.specs.List.{list_any, position, position_or_len}
use Rattle.std.proofs.Math.ListN.{set, length-set, get_or-append}
use Rattle.std.proofs.lemmas.Bool.{and_right, cases_Bool, cases_lt, ltb-true, ne_eqb, or_parts, lt-ltb, le-ltb, le-leb, lt-leb}
use Rattle.std.proofs.lemmas.List.{length_push, take_all, get_or_push, get_or-set_other}
use Rattle.std.proofs.lemmas.Grind.{get_or-set_at}
use Rattle.std.proofs.lemmas.List.Elements.{All-push, All-set}
use Rattle.std.proofs.lemmas.List.Sums.{prefix_len-le-length}
use Rattle.ordup_objects.specs.Repeats.{repeats}
use Rattle.ordup_objects.proofs.RepeatLemmas.{list_any-alike}
use Rattle.std.specs.List.Sorted.{IsPartitionPoint}
use Rattle.ordup_limits.specs.declared.limit_entry.LimitEntry.{LimitEntry}
use Rattle.ordup_limits.specs.Entries.{put, are_one_entry, Entries}
use Rattle.ordup_limits.specs.Limits.{are_on_one_scope}

-- an element takes the place of the first that is the same
pub put-found : {X : Type 0} (same : X → X → Bool) (xs : List X) (x : X) → position_or_len (λ y. same y x) xs < length xs
    → put same xs x ≡ set xs (position_or_len (λ y. same y x) xs) x
put-found same [] x lt = absurd (omega arith)
put-found same (y ∷ ys) x lt = elim (cases_Bool (same y x)) [
  | inl e ↦ rw e refl
  | inr e ↦ (let next : 1 + position_or_len (λ z. same z x) ys ≡ suc (position_or_len (λ z. same z x) ys) = omega arith in
      let below : 1 + position_or_len (λ z. same z x) ys < length (y ∷ ys) = rw e at lt in
      rw e (rw next (ap (λ zs. y ∷ zs) (put-found same ys x (omega arith)))))
]

-- or else it comes last
pub put-new : {X : Type 0} (same : X → X → Bool) (xs : List X) (x : X) → length xs ≤ position_or_len (λ y. same y x) xs
    → put same xs x ≡ xs ++ x ∷ []
put-new same [] x past = refl
put-new same (y ∷ ys) x past = elim (cases_Bool (same y x)) [
  | inl e ↦ absurd (let none : length (y ∷ ys) ≤ 0 = rw e at past in omega arith)
  | inr e ↦ (let more : length (y ∷ ys) ≤ 1 + position_or_len (λ z. same z x) ys = rw e at past in
      rw e (ap (λ zs. y ∷ zs) (put-new same ys x (omega arith))))
]

-- what `position` gives of the first that passes
pub position-some : {X : Type 0} (p : X → Bool) (xs : List X) (i : ℕ) → Some i ≡ position p xs
    → (i ≡ position_or_len p xs) × (i < length xs)
position-some p xs i is = elim (cases_lt (position_or_len p xs) (length xs)) [
  | inl lt ↦ (let e : Some i ≡ Some (position_or_len p xs) = rw (lt-ltb (position_or_len p xs) (length xs) lt) at is in
      let same : i ≡ position_or_len p xs = cc in
      (same, omega arith))
  | inr le ↦ absurd (let e : Some i ≡ None = rw (le-ltb (position_or_len p xs) (length xs) le) at is in cc)
]

pub position-none : {X : Type 0} (p : X → Bool) (xs : List X) → None ≡ position p xs → length xs ≡ position_or_len p xs
position-none p xs is = elim (cases_lt (position_or_len p xs) (length xs)) [
  | inl lt ↦ absurd (let e : None ≡ Some (position_or_len p xs) = rw (lt-ltb (position_or_len p xs) (length xs) lt) at is in cc)
  | inr le ↦ omega (arith, prefix_len-le-length (λ x. not (p x)) xs)
]

-- where none of the first n passes, the first that passes is among the others
position_or_len-behind : {X : Type 0} (p : X → Bool) (xs : List X) (n : ℕ) → n ≤ length xs
    → ((j : ℕ) (d : X) → j < n → p (get_or xs j d) ≡ false)
    → position_or_len p xs ≡ n + position_or_len p (drop n xs)
position_or_len-behind p xs zero le none = omega arith
position_or_len-behind p [] (suc n) le none = absurd (omega arith)
position_or_len-behind p (x ∷ xs) (suc n) le none =
    let first : p x ≡ false = none 0 x (omega arith) in
    let rest = position_or_len-behind p xs n (omega arith) (λ j d lt. none (suc j) d (omega arith)) in
    rw first (omega (arith, rest))

position-behind : {X : Type 0} (p : X → Bool) (xs : List X) (n : ℕ) → n ≤ length xs
    → ((j : ℕ) (d : X) → j < n → p (get_or xs j d) ≡ false)
    → option_map (λ i. n + i) (position p (drop n xs)) ≡ position p xs
position-behind p xs n le none =
    let at = position_or_len-behind p xs n le none in
    let k = position_or_len p (drop n xs) in
    let long = length-drop n xs in
    elim (cases_lt k (length (drop n xs))) [
      | inl lt ↦ rw (at, lt-ltb k (length (drop n xs)) lt, lt-ltb (n + k) (length xs) (omega (arith, lt, long))) refl
      | inr past ↦ rw (at, le-ltb k (length (drop n xs)) past, le-ltb (n + k) (length xs) (omega (arith, past, long))) refl
    ]

-- the first n entries stand at places before this one, and no later ones do
abbrev pub StandBefore : Entries → ℕ → ℕ → Type 0
StandBefore entries place n =
    IsPartitionPoint (λ (e : LimitEntry). nat_lt e.place place ≡ true) (λ e. nat_lt e.place place ≡ false) entries n

-- so the entry of the same scope and place is among the others
pub entry-behind : (entries : Entries) (entry : LimitEntry) (n : ℕ) → n ≤ length entries → StandBefore entries entry.place n
    → option_map (λ i. n + i) (position (λ e. are_one_entry e entry) (take (length entries - n) (drop n entries)))
    ≡ position (λ e. are_one_entry e entry) entries
entry-behind entries entry n le before =
    ap (λ (es : Entries). option_map (λ i. n + i) (position (λ e. are_one_entry e entry) es))
    (take_all (length entries - n) (drop n entries) (omega (arith, length-drop n entries)))
    ∙ position-behind (λ e. are_one_entry e entry) entries n le
    (λ j d lt. (let e = get_or entries j d in
    let earlier : e.place < entry.place = ltb-true e.place entry.place (before.0 j d (omega (arith, lt, le)) lt) in
    and_right (are_on_one_scope e.limit entry.limit) _ (ne_eqb e.place entry.place (λ same. absurd (omega (arith, same, earlier))))))

-- a list with one more has one more at most
pub put-length : {X : Type 0} (same : X → X → Bool) (xs : List X) (x : X)
    → (length xs ≤ length (put same xs x)) × (length (put same xs x) ≤ length xs + 1)
put-length same [] x = (omega arith, omega arith)
put-length same (y ∷ ys) x = elim (cases_Bool (same y x)) [
  | inl e ↦ rw e (omega arith, omega arith)
  | inr e ↦ rw e (omega (arith, put-length same ys x), omega (arith, put-length same ys x))
]

-- what each element has and the one that is put in, each has afterwards
pub All-put : {X : Type 0} (P : X → Type 0) (same : X → X → Bool) (xs : List X) (x : X) → All P xs → P x → All P (put same xs x)
All-put P same xs x all here = elim (cases_lt (position_or_len (λ y. same y x) xs) (length xs)) [
  | inl lt ↦ rw (put-found same xs x lt) (All-set P xs (position_or_len (λ y. same y x) xs) x here all)
  | inr le ↦ rw (put-new same xs x le) (All-push P xs x all here)
]

-- an element that passes no test with the others passes none with one more that it does not pass with
pub list_any-put : {X : Type 0} (p : X → Bool) (same : X → X → Bool) (xs : List X) (x : X) → list_any p xs ≡ false → p x ≡ false
    → list_any p (put same xs x) ≡ false
list_any-put p same [] x none other = rw other refl
list_any-put p same (y ∷ ys) x none other =
    let parts = or_parts (p y) (list_any p ys) none in
    elim (cases_Bool (same y x)) [
      | inl e ↦ rw (e, other, parts.1) refl
      | inr e ↦ rw (e, parts.0, list_any-put p same ys x parts.1 other) refl
    ]

-- without repeats there are none with one more, where elements that are the same are so for the same others
pub repeats-put : {X : Type 0} (same : X → X → Bool) (xs : List X) (x : X)
    → ((y z : X) → same y x ≡ true → same x z ≡ same y z) → repeats same xs ≡ false
    → repeats same (put same xs x) ≡ false
repeats-put same [] x alike distinct = refl
repeats-put same (y ∷ ys) x alike distinct =
    let parts = or_parts (list_any (same y) ys) (repeats same ys) distinct in
    elim (cases_Bool (same y x)) [
      | inl e ↦ rw (e, list_any-alike (same x) (same y) (λ z. alike y z e) ys, parts.0, parts.1) refl
      | inr e ↦ rw (e, list_any-put (same y) same ys x parts.0 e, repeats-put same ys x alike parts.1) refl
    ]

-- ---- by the place that `position` gives

pub put-at : {X : Type 0} (same : X → X → Bool) (xs : List X) (x : X) (i : ℕ) → Some i ≡ position (λ y. same y x) xs
    → put same xs x ≡ set xs i x
put-at same xs x i is =
    let at = position-some (λ y. same y x) xs i is in
    put-found same xs x (omega (arith, at.0, at.1)) ∙ ap (λ k. set xs k x) (sym at.0)

pub put-last : {X : Type 0} (same : X → X → Bool) (xs : List X) (x : X) → None ≡ position (λ y. same y x) xs
    → put same xs x ≡ xs ++ x ∷ []
put-last same xs x is = put-new same xs x (omega (arith, position-none (λ y. same y x) xs is))

-- an element that is there is not one too many
pub spare-found : {X : Type 0} (same : X → X → Bool) (xs : List X) (x : X) (i most : ℕ) → Some i ≡ position (λ y. same y x) xs
    → length xs ≤ most → true ≡ nat_le (length (put same xs x)) most
spare-found same xs x i most is few =
    sym (le-leb (length (put same xs x)) most (omega (arith, ap length (put-at same xs x i is), length-set xs i x, few)))

-- one that is not has it where there are fewer than the most
pub spare-new : {X : Type 0} (same : X → X → Bool) (xs : List X) (x : X) (n most : ℕ) → None ≡ position (λ y. same y x) xs
    → n ≡ length xs → nat_lt n most ≡ nat_le (length (put same xs x)) most
spare-new same xs x n most is here =
    let more : length (put same xs x) ≡ n + 1 = omega (arith, ap length (put-last same xs x is), length_push xs x, here) in
    rw more (elim (cases_lt n most) [
      | inl lt ↦ rw (lt-ltb n most lt, le-leb (n + 1) most (omega arith)) refl
      | inr le ↦ rw (le-ltb n most le, lt-leb (n + 1) most (omega arith)) refl
    ])

-- where there are few enough, its place is among the most
pub place-below : {X : Type 0} (same : X → X → Bool) (xs : List X) (x : X) (most : ℕ) → length (put same xs x) ≤ most
    → length xs ≤ most → position_or_len (λ y. same y x) xs < most
place-below same xs x most spare few = elim (cases_lt (position_or_len (λ y. same y x) xs) (length xs)) [
  | inl lt ↦ omega arith
  | inr le ↦ omega (
    arith,
    ap length (put-new same xs x le),
    length_push xs x,
    prefix_len-le-length (λ y. not (same y x)) xs,
  )
]

-- a test that none passes has no place
pub position-absent : {X : Type 0} (p : X → Bool) (xs : List X) → list_any p xs ≡ false → length xs ≤ position_or_len p xs
position-absent p [] none = omega arith
position-absent p (x ∷ xs) none =
    let parts = or_parts (p x) (list_any p xs) none in
    rw parts.0 (omega (arith, position-absent p xs parts.1))

-- what stands in the place, and in the others
pub put-here : {X : Type 0} (same : X → X → Bool) (xs : List X) (x : X) (i : ℕ) (d : X) → i ≡ position_or_len (λ y. same y x) xs
    → (get_or (put same xs x) i d ≡ x) × (i < length (put same xs x))
put-here same xs x i d is = elim (cases_lt (position_or_len (λ y. same y x) xs) (length xs)) [
  | inl lt ↦ rw (put-found same xs x lt)
      (get_or-set_at xs (position_or_len (λ y. same y x) xs) i x d is lt, omega (arith, length-set xs (position_or_len (λ y. same y x) xs) x))
  | inr le ↦ (let end : length xs ≡ i = omega (arith, prefix_len-le-length (λ y. not (same y x)) xs) in
      rw (put-new same xs x le) (get_or_push xs x d i end, omega (arith, length_push xs x)))
]

pub put-elsewhere : {X : Type 0} (same : X → X → Bool) (xs : List X) (x : X) (i : ℕ) (d : X)
    → (i ≡ position_or_len (λ y. same y x) xs → ⊥)
    → (nat_lt i (length (put same xs x)) ≡ nat_lt i (length xs)) × (i < length (put same xs x) → get_or (put same xs x) i d ≡ get_or xs i d)
put-elsewhere same xs x i d other = elim (cases_lt (position_or_len (λ y. same y x) xs) (length xs)) [
  | inl lt ↦ (let place = position_or_len (λ y. same y x) xs in
      let kept : i < length (set xs place x) → get_or (set xs place x) i d ≡ get_or xs i d = λ below. get_or-set_other xs place i x d other in
      rw (put-found same xs x lt) (ap (nat_lt i) (length-set xs place x), kept))
  | inr le ↦ (let end : length xs ≡ position_or_len (λ y. same y x) xs = omega (arith, prefix_len-le-length (λ y. not (same y x)) xs) in
      let apart : i ≡ length xs → ⊥ = λ e. other (e ∙ end) in
      let below : nat_lt i (length (xs ++ x ∷ [])) ≡ nat_lt i (length xs) = elim (cases_lt i (length xs)) [
        | inl lt ↦ rw (lt-ltb i (length xs) lt, lt-ltb i (length (xs ++ x ∷ [])) (omega (arith, length_push xs x))) refl
        | inr past ↦ rw (le-ltb i (length xs) past, le-ltb i (length (xs ++ x ∷ [])) (omega (arith, length_push xs x, apart))) refl
      ] in
      let kept : i < length (xs ++ x ∷ []) → get_or (xs ++ x ∷ []) i d ≡ get_or xs i d =
      λ lt. get_or-append xs (x ∷ []) d i (omega (arith, length_push xs x, apart)) in
      rw (put-new same xs x le) (below, kept))
]

-- the first n of a list with a write
pub take-set : {X : Type 0} (n : ℕ) (xs : List X) (i : ℕ) (x : X) → take n (set xs i x) ≡ set (take n xs) i x
take-set zero xs i x = refl
take-set (suc n) [] i x = refl
take-set (suc n) (y ∷ ys) zero x = refl
take-set (suc n) (y ∷ ys) (suc i) x = ap (λ zs. y ∷ zs) (take-set n ys i x)
