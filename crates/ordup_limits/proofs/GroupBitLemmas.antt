-- The groups of an object, by the bits of its mask.
use Rattle.std.proofs.Common.{◌≡◌, ℕ, zero, suc, ◌+◌, ◌<◌, ◌≤◌, Bool, true, false, List, [], ◌∷◌, length, get_or}
use Rattle.std.proofs.Common.{w64, arith, refl, sym, ap, ◌∙◌, inl, inr}
use Rattle.std.specs.Prelude.{◌==◌, ◌&&◌, ◌⊎◌, not, nat_lt}
use Rattle.std.specs.Int.{bit_at}
use Rattle.std.proofs.Math.ListN.{get_or-append}
use Rattle.std.proofs.lemmas.Bool.{and_parts, cases_eq, cases_lt, eq-eqb, ne_eqb, eqb-true, false≢true, le-ltb, lt-ltb, ltb-true}
use Rattle.std.proofs.lemmas.List.{get_or_push, length_push}
use Rattle.std.proofs.lemmas.Nat.Bits.{bit_at-zero, bit_at_clear_same, bit_at_clear_other}
use Rattle.ordup_objects.specs.Sizes.{most_groups, most_objects}
use Rattle.ordup_log.specs.Groups.{GroupList}
use Rattle.ordup_log.specs.Spans.{IsScopeKnown}
use Rattle.ordup_log.specs.declared.scope.Scope.{Scope}
use Rattle.ordup_log.specs.declared.scope.Scope.TheVariants.{Object, Group, All as Everything, Count}
use Rattle.ordup_limits.specs.declared.limit.Limit.{Limit}
use Rattle.ordup_limits.specs.Limits.{is_same_scope}
use Rattle.ordup_limits.specs.Masks.{group_limits, counts_on, AreGroupMasks}
use Rattle.ordup_limits.specs.StoreLedgers.{counts_within}
use Rattle.ordup_limits.specs.Sizes.{most_limits}
use Rattle.ordup_limits.specs.Totals.{share}
use Rattle.ordup_limits.proofs.MaskLemmas.{cleared}

-- ---- masks

pub group_limits-length : (n : ℕ) → length (group_limits n) ≡ n
group_limits-length zero = refl
group_limits-length (suc n) =
    omega (arith, length_push (group_limits n) (record { scope = Group n; amount = 0 }), group_limits-length n)

pub group_limits-at : (n g : ℕ) (d : Limit) → g < n → get_or (group_limits n) g d ≡ record { scope = Group g; amount = 0 }
group_limits-at zero g d lt = absurd (omega (arith, lt))
group_limits-at (suc n) g d lt =
    let count = group_limits-length n in
    elim (cases_eq g n) [
      | inl here ↦ rw here (get_or_push (group_limits n) (record { scope = Group n; amount = 0 }) d n count)
      | inr other ↦ get_or-append (group_limits n) (record { scope = Group n; amount = 0 } ∷ []) d g (omega (arith, count, lt, other))
          ∙ group_limits-at n g d (omega (arith, lt, other))
    ]

-- what tells that a mask has a bit for each group of object x
abbrev pub IsMaskOf : GroupList → ℕ → ℕ → Type 0
IsMaskOf groups x mask = (g : ℕ) → g < most_limits → (bit_at mask g == 1) ≡ (nat_lt g (length groups) && counts_within groups x (Group g))

-- the mask of an object
pub mask-at : (groups : GroupList) (masks : List ℕ) (x g : ℕ) → AreGroupMasks groups masks → x < most_objects
    → g < most_limits → (bit_at (get_or masks x 0) g == 1) ≡ (nat_lt g (length groups) && counts_within groups x (Group g))
mask-at groups masks x g are below lt =
    let d : Limit = record { scope = Count; amount = 0 } in
    are x g d below lt ∙ rw (group_limits-length (length groups)) (elim (cases_lt g (length groups)) [
      | inl in_ ↦ rw (group_limits-at (length groups) g d in_) refl
      | inr past ↦ rw (le-ltb g (length groups) past) refl
    ])

-- ---- one group after the other

-- the group of a scope has a bit that is left
abbrev pub has_left : ℕ → Scope → Bool
has_left rest (Group g) = bit_at rest g == 1
has_left rest _ = false

-- no bit is left
pub has_left-none : (s : Scope) (weight : ℕ) → share (has_left 0 s) weight ≡ 0
has_left-none (Group g) weight = ap (λ n. share (n == 1) weight) (bit_at-zero g)
has_left-none (Object x) weight = refl
has_left-none Everything weight = refl
has_left-none Count weight = refl

-- a change counts on its object, on all objects, and on the groups of its mask
pub share-parts : (n : ℕ) (groups : GroupList) (x mask weight : ℕ) → length groups ≤ most_groups → IsMaskOf groups x mask → (s : Scope)
    → IsScopeKnown n groups s
    → share (is_same_scope (Object x) s) weight + share (is_same_scope Everything s) weight + share (has_left mask s) weight
    ≡ share (counts_on groups s x) weight
share-parts n groups x mask weight few is (Object y) known = elim (cases_eq x y) [
  | inl same ↦ rw (eq-eqb x y same, eq-eqb y x (sym same)) (omega arith)
  | inr other ↦ rw (ne_eqb x y other, ne_eqb y x (λ e. other (sym e))) (omega arith)
]
share-parts n groups x mask weight few is (Group g) known =
    rw (is g (omega (arith, known, few)), lt-ltb g (length groups) known) (omega arith)
share-parts n groups x mask weight few is Everything known = omega arith
share-parts n groups x mask weight few is Count known = omega arith

-- one group less is left
pub share-left : (n : ℕ) (groups : GroupList) (rest z weight : ℕ) → length groups ≤ most_groups → z < 64 → bit_at rest z ≡ 1 → (s : Scope)
    → IsScopeKnown n groups s
    → share (is_same_scope (Group z) s) weight + share (has_left (cleared rest z) s) weight ≡ share (has_left rest s) weight
share-left n groups rest z weight few lt one (Object y) known = omega arith
share-left n groups rest z weight few lt one (Group g) known = elim (cases_eq z g) [
  | inl same ↦ rw (eq-eqb z g same, ← same, bit_at_clear_same w64 rest z lt, one) (omega arith)
  | inr other ↦ rw (ne_eqb z g other, bit_at_clear_other w64 rest z lt g (omega (arith, known, few)) (λ e. other (sym e))) (omega arith)
]
share-left n groups rest z weight few lt one Everything known = omega arith
share-left n groups rest z weight few lt one Count known = omega arith

-- a change of object x counts on a scope of its own, or of a group whose bit is not in the mask
abbrev pub counts_beside : GroupList → ℕ → ℕ → Scope → Bool
counts_beside groups x rest (Object y) = y == x
counts_beside groups x rest (Group g) = counts_within groups x (Group g) && not (bit_at rest g == 1)
counts_beside groups x rest Everything = false
counts_beside groups x rest Count = false

-- before the first group only the object itself is asked about
pub beside-start : (n : ℕ) (groups : GroupList) (x mask : ℕ) → length groups ≤ most_groups → IsMaskOf groups x mask → (s : Scope)
    → IsScopeKnown n groups s → counts_beside groups x mask s ≡ true
    → is_same_scope (Object x) s ≡ true
beside-start n groups x mask few is (Object y) known here = eq-eqb x y (sym (eqb-true y x here))
beside-start n groups x mask few is (Group g) known here =
    let parts = and_parts (counts_within groups x (Group g)) (not (bit_at mask g == 1)) here in
    let bit : (bit_at mask g == 1) ≡ true = is g (omega (arith, known, few)) ∙ rw (lt-ltb g (length groups) known, parts.0) refl in
    absurd (false≢true (rw bit at parts.1))
beside-start n groups x mask few is Everything known here = absurd (false≢true here)
beside-start n groups x mask few is Count known here = absurd (false≢true here)

-- a bit that is left is that of a group
pub bit-known : (groups : GroupList) (x mask z : ℕ) → IsMaskOf groups x mask → z < most_limits → bit_at mask z ≡ 1 → z < length groups
bit-known groups x mask z is lt one =
    ltb-true z (length groups) (and_parts (nat_lt z (length groups)) _ (sym (is z lt) ∙ eq-eqb (bit_at mask z) 1 one)).0

-- one group more
pub beside-next : (n : ℕ) (groups : GroupList) (x rest z : ℕ) → length groups ≤ most_groups → z < 64 → (s : Scope)
    → IsScopeKnown n groups s → counts_beside groups x (cleared rest z) s ≡ true
    → ((counts_beside groups x rest s ≡ true) ⊎ (is_same_scope (Group z) s ≡ true))
beside-next n groups x rest z few lt (Object y) known here = inl here
beside-next n groups x rest z few lt (Group g) known here = elim (cases_eq g z) [
  | inl same ↦ inr (eq-eqb z g (sym same))
  | inr other ↦ inl (rw (bit_at_clear_other w64 rest z lt g (omega (arith, known, few)) other) at here)
]
beside-next n groups x rest z few lt Everything known here = absurd (false≢true here)
beside-next n groups x rest z few lt Count known here = absurd (false≢true here)

-- once no group is left
pub beside-end : (groups : GroupList) (x rest : ℕ) (s : Scope) → rest ≡ 0 → counts_within groups x s ≡ true
    → counts_beside groups x rest s ≡ true
beside-end groups x rest (Object y) none is = is
beside-end groups x rest (Group g) none is =
    let bit : (bit_at 0 g == 1) ≡ false = ne_eqb (bit_at 0 g) 1 (λ e. absurd (omega (arith, e, bit_at-zero g))) in
    rw none (rw (is, bit) refl)
beside-end groups x rest Everything none is = is
beside-end groups x rest Count none is = is

-- the bits that are left are bits of the mask
pub bits-left : (rest mask z : ℕ) → z < 64 → ((i : ℕ) → i < 64 → bit_at rest i ≤ bit_at mask i) → (i : ℕ) → i < 64
    → bit_at (cleared rest z) i ≤ bit_at mask i
bits-left rest mask z lt before i small = elim (cases_eq i z) [
  | inl same ↦ rw same (omega (arith, bit_at_clear_same w64 rest z lt))
  | inr other ↦ omega (arith, bit_at_clear_other w64 rest z lt i small other, before i small)
]
