-- How sets come into hands, one after another.
use Rattle.std.proofs.Common.{◌≡◌, ◌≢◌, ◌⊎◌, ℕ, zero, suc, ◌+◌, ◌-◌, ◌*◌, ◌<◌, List, [], ◌∷◌, ◌++◌, length, Some}
use Rattle.std.proofs.Common.{refl, sym, ap, ◌∙◌, arith, inl, inr, ⊎_elim, append_assoc, append-nil}
use Rattle.std.specs.Prelude.{Vec, slice_get, slice_set, slice_index_or}
use Rattle.std.proofs.Math.ListN.{length-set}
use Rattle.std.proofs.lemmas.Bool.{cases_eq}
use Rattle.std.proofs.lemmas.Option.{slice_get_within}
use Rattle.std.proofs.lemmas.List.{get_or-set_same, get_or-set_other}
use Rattle.ordup_plan.specs.Dealing.{AreDealt}

-- every n-th of these, from the one after the first skip on
abbrev pub every : {X : Type 0} → ℕ → ℕ → List X → List X
every n skip [] = []
every n zero (x ∷ xs) = x ∷ every n (n - 1) xs
every n (suc skip) (x ∷ xs) = every n skip xs

pub every_at : {X : Type 0} → (n c i p : ℕ) (xs : List X) → 0 < n → p ≡ i * n + c → slice_get (every n c xs) i ≡ slice_get xs p
every_at n c i p [] some is = refl
every_at n zero zero zero (x ∷ xs) some is = refl
every_at n zero zero (suc p) (x ∷ xs) some is = absurd (omega arith)
every_at n zero (suc i) zero (x ∷ xs) some is = absurd (let e : 0 ≡ i * n + n = grind (arith, is) in omega arith)
every_at n zero (suc i) (suc p) (x ∷ xs) some is = every_at n (n - 1) i p xs some (let e : suc p ≡ i * n + n = grind (arith, is) in omega arith)
every_at n (suc c) i zero (x ∷ xs) some is = absurd (omega arith)
every_at n (suc c) i (suc p) (x ∷ xs) some is = every_at n c i p xs some (omega arith)

pub read_of : {A : Type 0} → (xs : List A) (k : ℕ) (d a : A) → slice_get xs k ≡ Some a → slice_index_or xs k d ≡ a
read_of [] k d a is = absurd cc
read_of (x ∷ xs) zero d a is = cc
read_of (x ∷ xs) (suc k) d a is = read_of xs k d a is

-- where it is the turn of caller t, the next set of caller c comes after skip sets of others
pub record IsNext (n t c skip : ℕ) : Type 0 where
  pub few : skip < n
  pub at : (t + skip ≡ c) ⊎ (t + skip ≡ n + c)

-- it is the turn of caller t: each hand is complete but for what is left
pub record Deals {X A : Type 0} (n t : ℕ) (all rest : List X) (hands : List (Vec X A)) : Type 0 where
  pub count : length hands ≡ n
  pub turn : t < n
  pub each : (c : ℕ) (d : Vec X A) → c < n
      → (skip : ℕ) × IsNext n t c skip × ((slice_index_or hands c d).items ++ every n skip rest ≡ every n c all)

-- the turn after this one
abbrev pub IsAfter : ℕ → ℕ → ℕ → Type 0
IsAfter n t u = ((u ≡ t + 1) × (u < n)) ⊎ ((u ≡ 0) × (t + 1 ≡ n))

next-same : (n t u : ℕ) → t < n → IsAfter n t u → IsNext n u t (n - 1)
next-same n t u lt after = record {
  few = omega arith;
  at = ⊎_elim (λ (h : (u ≡ t + 1) × (u < n)). inr (let is = h.0 in omega arith))
      (λ (h : (u ≡ 0) × (t + 1 ≡ n)). inl (let is = h.0 in let end = h.1 in omega arith)) after;
}

next-other : (n t u c skip : ℕ) → c < n → IsAfter n t u → IsNext n t c (suc skip) → IsNext n u c skip
next-other n t u c skip lt after next = record {
  few = let few = next.few in omega arith;
  at = let few = next.few in ⊎_elim
      (λ (h : (u ≡ t + 1) × (u < n)). let is = h.0 in
      ⊎_elim (λ (e : t + suc skip ≡ c). inl (omega arith)) (λ (e : t + suc skip ≡ n + c). inr (omega arith)) next.at)
      (λ (h : (u ≡ 0) × (t + 1 ≡ n)). let is = h.0 in let end = h.1 in
      ⊎_elim (λ (e : t + suc skip ≡ c). absurd (omega arith)) (λ (e : t + suc skip ≡ n + c). inl (omega arith)) next.at)
      after;
}

not-next : (n t c skip : ℕ) → t < n → IsNext n t c (suc skip) → c ≢ t
not-next n t c skip lt next same = let few = next.few in
    ⊎_elim (λ (e : t + suc skip ≡ c). absurd (omega arith)) (λ (e : t + suc skip ≡ n + c). absurd (omega arith)) next.at

is-next : (n t c : ℕ) → t < n → IsNext n t c 0 → c ≡ t
is-next n t c lt next =
    ⊎_elim (λ (e : t + 0 ≡ c). omega arith) (λ (e : t + 0 ≡ n + c). absurd (omega arith)) next.at

pub deals-none : {X A : Type 0} → (n : ℕ) (all : List X) (hands : List (Vec X A)) → 0 < n → length hands ≡ n
    → ((c : ℕ) (d : Vec X A) → c < n → (slice_index_or hands c d).items ≡ []) → Deals n 0 all all hands
deals-none n all hands some count empty = record {
  count = count;
  turn = some;
  each = λ c d lt. (c, record { few = lt; at = inl (omega arith) }, ap (λ items. items ++ every n c all) (empty c d lt));
}

-- what is left for caller c, after the turn of caller t
abbrev pub Completes : {X A : Type 0} → ℕ → ℕ → ℕ → List X → List X → Vec X A → Type 0
Completes n u c all rest hand = (skip : ℕ) × IsNext n u c skip × (hand.items ++ every n skip rest ≡ every n c all)

own-hand : {X A : Type 0} → (n t u skip : ℕ) (all rest : List X) (x : X) (was hand : Vec X A) → t < n → IsAfter n t u
    → hand.items ≡ was.items ++ x ∷ [] → IsNext n t t skip → was.items ++ every n skip (x ∷ rest) ≡ every n t all
    → Completes n u t all rest hand
own-hand n t u zero all rest x was hand lt after more next e = (
  n - 1,
  next-same n t u lt after,
  rw more (append_assoc was.items (x ∷ []) (every n (n - 1) rest) ∙ e),
)
own-hand n t u (suc skip) all rest x was hand lt after more next e = absurd (not-next n t t skip lt next refl)

other-hand : {X A : Type 0} → (n t u c skip : ℕ) (all rest : List X) (x : X) (hand : Vec X A) → t < n → c < n → c ≢ t → IsAfter n t u
    → IsNext n t c skip → hand.items ++ every n skip (x ∷ rest) ≡ every n c all → Completes n u c all rest hand
other-hand n t u c zero all rest x hand lt there other after next e = absurd (other (is-next n t c lt next))
other-hand n t u c (suc skip) all rest x hand lt there other after next e = (skip, next-other n t u c skip there after next, e)

deal_each : {X A : Type 0} → (n t u : ℕ) (all rest : List X) (x : X) (hands : List (Vec X A)) (was hand : Vec X A)
    → Deals n t all (x ∷ rest) hands → IsAfter n t u → was ≡ slice_index_or hands t was → hand.items ≡ was.items ++ x ∷ []
    → (c : ℕ) (d : Vec X A) → c < n → (c ≡ t) ⊎ (c ≢ t) → Completes n u c all rest (slice_index_or (slice_set hands t hand) c d)
deal_each n t u all rest x hands was hand deals after is more c d lt (inl same) =
    let e = rw (← is) at (deals.each t was deals.turn) in
    let set = get_or-set_same hands t hand d (let count = deals.count in let turn = deals.turn in omega arith) in
    rw (same, set) (own-hand n t u e.0 all rest x was hand deals.turn after more e.1 e.2)
deal_each n t u all rest x hands was hand deals after is more c d lt (inr other) =
    let e = deals.each c d lt in
    let set = get_or-set_other hands t c hand d other in
    rw set (other-hand n t u c e.0 all rest x (slice_index_or hands c d) deals.turn lt other after e.1 e.2)

pub deals-more : {X A : Type 0} → (n t u : ℕ) (all rest : List X) (x : X) (hands : List (Vec X A)) (was hand : Vec X A)
    → Deals n t all (x ∷ rest) hands → IsAfter n t u → was ≡ slice_index_or hands t was → hand.items ≡ was.items ++ x ∷ []
    → Deals n u all rest (slice_set hands t hand)
deals-more n t u all rest x hands was hand deals after is more = record {
  count = length-set hands t hand ∙ deals.count;
  turn = ⊎_elim (λ (h : (u ≡ t + 1) × (u < n)). h.1) (λ (h : (u ≡ 0) × (t + 1 ≡ n)). let is = h.0 in let lt = deals.turn in omega arith) after;
  each = λ c d lt. deal_each n t u all rest x hands was hand deals after is more c d lt (cases_eq c t);
}

pub are-dealt : {X A : Type 0} → (n t : ℕ) (all : List X) (hands : List (Vec X A)) → Deals n t all [] hands → AreDealt n all hands
are-dealt {X} {A} n t all hands deals = record {
  count = deals.count;
  each = λ c i hand at.
      let lt : c < n = let there = slice_get_within hands c hand at in let count = deals.count in omega arith in
      let is = read_of hands c hand hand at in
      let e = deals.each c hand lt in
      let items : hand.items ≡ every n c all = sym (ap (λ (h : Vec X A). h.items) is) ∙ sym (append-nil _) ∙ e.2 in
      rw items (every_at n c i (i * n + c) all (let turn = deals.turn in omega arith) refl);
}

pub none-left : {X : Type 0} → (xs : List X) → length xs ≡ 0 → xs ≡ []
none-left [] none = refl
none-left (x ∷ xs) none = absurd (omega (arith, none))
