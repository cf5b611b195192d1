-- No object and no group weighs more than all objects do.
use Rattle.std.proofs.Common.{◌≡◌, ℕ, zero, suc, ◌+◌, ◌-◌, ◌<◌, ◌≤◌, pos, nat_eq, false, List, [], ◌∷◌, length}
use Rattle.std.proofs.Common.{sum_by, inl, inr, arith, refl}
use Rattle.std.specs.Prelude.{◌==◌}
use Rattle.std.specs.List.{list_any}
use Rattle.std.proofs.lemmas.Bool.{cases_Bool, cases_lt, or_parts}
use Rattle.std.proofs.lemmas.List.{get_or_past}
use Rattle.std.proofs.lemmas.List.Sums.{sum_by-cons}
use Rattle.ordup_objects.specs.States.{value_at}
use Rattle.ordup_objects.specs.Serial.{History, serial}
use Rattle.ordup_objects.specs.Sums.{sum_from}
use Rattle.ordup_objects.specs.Weights.{object_weight}
use Rattle.ordup_objects.specs.Repeats.{repeats}
use Rattle.ordup_log.specs.Groups.{GroupList, members_at}
use Rattle.ordup_log.specs.Spans.{weight, span}
use Rattle.ordup_log.specs.declared.scope.Scope.TheVariants.{Object, Group, All as Everything}
use Rattle.ordup_objects.proofs.SumLemmas.{sum_from-most, without, without-other, without-none, sum_from-without}
use Rattle.ordup_objects.proofs.SerialLemmas.{length-serial}

-- a sum over members without a number that is none of them
sum_by-without : (x : ℕ) (f : ℕ → ℕ) (members : List ℕ) → list_any (nat_eq x) members ≡ false
    → sum_by (without x f) members ≡ sum_by f members
sum_by-without x f [] none = refl
sum_by-without x f (y ∷ members) none = elim (cases_Bool (x == y)) [
  | inl same ↦ absurd (cc)
  | inr other ↦ (let rest : list_any (nat_eq x) members ≡ false = rw other at none in
      omega (
        arith,
        sum_by-cons (without x f) y members,
        sum_by-cons f y members,
        without-other x f y other,
        sum_by-without x f members rest,
      ))
]

-- distinct members weigh no more than all numbers below n, where those from n on weigh nothing
sum_by-most : (f : ℕ → ℕ) (members : List ℕ) (n : ℕ) → repeats nat_eq members ≡ false
    → ((x : ℕ) → n ≤ x → f x ≡ 0)
    → sum_by f members ≤ sum_from f 0 n
sum_by-most f [] n distinct none = omega arith
sum_by-most f (x ∷ members) n distinct none =
    let parts = or_parts (list_any (nat_eq x) members) (repeats nat_eq members) distinct in
    elim (cases_lt x n) [
      | inl lt ↦ omega (
        arith,
        sum_by-cons f x members,
        sum_by-without x f members parts.0,
        sum_by-most (without x f) members n parts.1 (λ y past. without-none x f y (none y past)),
        sum_from-without x f 0 n (omega arith) (omega arith),
      )
      | inr le ↦ omega (arith, sum_by-cons f x members, none x le, sum_by-most f members n parts.1 none)
    ]

-- an object that is not there weighs nothing
object_weight-past : (h : History) (x j : ℕ) → length h.start ≤ x → j < length h.sets → object_weight h x j ≡ 0
object_weight-past h x j past lt =
    let here : value_at (serial h j) x ≡ pos 0 = get_or_past (serial h j) x (pos 0) (omega (arith, length-serial h j (omega arith))) in
    let next : value_at (serial h (suc j)) x ≡ pos 0 =
    get_or_past (serial h (suc j)) x (pos 0) (omega (arith, length-serial h (suc j) (omega arith))) in
    rw (here, next) refl

-- and no span does on it
pub object_span-past : (h : History) (x a n : ℕ) → length h.start ≤ x → a + n ≤ length h.sets → sum_from (object_weight h x) a n ≡ 0
object_span-past h x a zero past le = refl
object_span-past h x a (suc n) past le =
    omega (arith, object_span-past h x a n past (omega arith), object_weight-past h x (a + n) past (omega arith))

-- an object weighs no more than all do
object-most : (h : History) (groups : GroupList) (x j : ℕ) → x < length h.start
    → weight h groups (Object x) j ≤ weight h groups Everything j
object-most h groups x j lt = omega (arith, sum_from-without x (λ y. object_weight h y j) 0 (length h.start) (omega arith) (omega arith))

-- a group of distinct members weighs no more than all do
group-most : (h : History) (groups : GroupList) (g j : ℕ) → repeats nat_eq (members_at groups g) ≡ false → j < length h.sets
    → weight h groups (Group g) j ≤ weight h groups Everything j
group-most h groups g j distinct lt =
    sum_by-most (λ x. object_weight h x j) (members_at groups g) (length h.start) distinct (λ x past. object_weight-past h x j past lt)

-- a span weighs no more on an object than on all
pub span-object-most : (h : History) (groups : GroupList) (x a b : ℕ) → x < length h.start
    → span h groups (Object x) a b ≤ span h groups Everything a b
span-object-most h groups x a b known =
    sum_from-most (weight h groups (Object x)) (weight h groups Everything) a (b - a) (λ j _. object-most h groups x j known)

-- a span weighs no more on a group of distinct members than on all objects
pub span-group-most : (h : History) (groups : GroupList) (g a b : ℕ) → repeats nat_eq (members_at groups g) ≡ false → a ≤ b
    → b ≤ length h.sets → span h groups (Group g) a b ≤ span h groups Everything a b
span-group-most h groups g a b distinct forward last =
    sum_from-most (weight h groups (Group g)) (weight h groups Everything) a (b - a)
    (λ j lt. group-most h groups g j distinct (omega arith))
