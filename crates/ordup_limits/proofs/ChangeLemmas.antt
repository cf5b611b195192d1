-- A ledger whose limit on a scope changes.
use Rattle.std.proofs.Common.{◌≡◌, ℕ, ◌+◌, ◌-◌, ◌*◌, ◌<◌, ◌≤◌, Bool, true, false, List, length, get_or}
use Rattle.std.proofs.Common.{arith, refl, sym, ap, ◌∙◌, inl, inr}
use Rattle.std.specs.Prelude.{◌&&◌, ◌||◌, nat_lt, All}
use Rattle.std.specs.List.{position_or_len}
use Rattle.std.proofs.Math.Bool.{and-false, and-true}
use Rattle.std.proofs.lemmas.Bool.{cases_eq, cases_lt, eq-eqb, ne_eqb, lt-ltb, le-ltb, ltb-true}
use Rattle.std.proofs.Math.Nat.{min-le_right}
use Rattle.std.proofs.lemmas.List.Sums.{passes_at_first}
use Rattle.ordup_objects.specs.Serial.{History, IsLegalHistory}
use Rattle.ordup_objects.specs.Sizes.{greatest_weight}
use Rattle.ordup_objects.proofs.SumLemmas.{sum_from-few}
use Rattle.ordup_log.specs.Groups.{GroupList, IsGroup}
use Rattle.ordup_log.specs.Spans.{weight, IsScopeKnown}
use Rattle.ordup_log.specs.declared.scope.Scope.{Scope}
use Rattle.ordup_log.specs.declared.scope.Scope.TheVariants.{Count}
use Rattle.ordup_log.proofs.WeightLemmas.{weight-few}
use Rattle.ordup_limits.specs.declared.limit.Limit.{Limit}
use Rattle.ordup_limits.specs.Limits.{Limits, is_same_scope, are_on_one_scope}
use Rattle.ordup_limits.specs.Entries.{put}
use Rattle.ordup_limits.specs.Sizes.{most_limits, greatest_amount}
use Rattle.ordup_limits.specs.Masks.{counts_on, AreMasks, GainBit}
use Rattle.ordup_limits.specs.Totals.{weighed, kept_amount, AreTotals, AreAllowed, HaveTotalAt}
use Rattle.ordup_limits.proofs.EntryLemmas.{same_scope}
use Rattle.ordup_limits.proofs.PutLemmas.{place-below, put-here, put-elsewhere, put-length}

-- the index of the limit on a scope, or else the one after the last
abbrev pub index_of : Limits → Limit → ℕ
index_of limits l = position_or_len (λ m. is_same_scope m.scope l.scope) limits

-- the updates up to a place weigh little on a scope that is there
pub weighed-few : (h : History) → IsLegalHistory h → (groups : GroupList) → All (λ g. IsGroup g.1) groups → (s : Scope)
    → IsScopeKnown (length h.start) groups s → (place : ℕ) → place ≤ length h.sets
    → weighed h groups s place ≤ greatest_weight * place
weighed-few h legal groups are Count known place le = omega arith
weighed-few h legal groups are s known place le =
    let most = sum_from-few (weight h groups s) greatest_weight 0 (place - 0)
    (λ j lt. weight-few h legal groups are s known j (omega arith)) in
    let same : place - 0 ≡ place = omega arith in
    omega (arith, most, ap (λ n. greatest_weight * n) same)

-- where there are few enough, the index is among those that there may be
pub index-small : (old limits : Limits) (l : Limit) (index : ℕ) → limits ≡ old → index ≡ index_of limits l
    → length (put are_on_one_scope old l) ≤ most_limits → length limits ≤ most_limits
    → index < most_limits
index-small old limits l index same at spare few =
    omega (
      arith,
      at,
      place-below are_on_one_scope limits l most_limits (omega (arith, ap (λ ls. length (put are_on_one_scope ls l)) same, spare)) few,
    )

-- a total that is put down, and the others
total-here : (i total k : ℕ) (old new : List ℕ) → HaveTotalAt i total old new → k ≡ i → get_or new k 0 ≡ total
total-here i total k old new put here = put k ∙ rw (eq-eqb k i here) refl

total-elsewhere : (i total k : ℕ) (old new : List ℕ) → HaveTotalAt i total old new → (k ≡ i → ⊥) → get_or new k 0 ≡ get_or old k 0
total-elsewhere i total k old new put other = put k ∙ rw (ne_eqb k i other) refl

-- totals with what the updates weigh on a scope put down at its place
pub AreTotals-put : (h : History) (groups : GroupList) (limits : Limits) (l : Limit) (place i : ℕ) (old new : List ℕ)
    → AreTotals h groups limits place old → i ≡ index_of limits l → HaveTotalAt i (weighed h groups l.scope place) old new
    → weighed h groups l.scope place ≤ greatest_weight * place
    → AreTotals h groups (put are_on_one_scope limits l) place new
AreTotals-put h groups limits l place i old new are at put few = record {
  few = λ k. elim (cases_eq k i) [
    | inl here ↦ omega (arith, total-here i _ k old new put here, few)
    | inr other ↦ omega (arith, total-elsewhere i _ k old new put other, are.few k)
  ];
  none = λ k past. (let other : k ≡ i → ⊥ =
      λ e. absurd (omega (arith, (put-here are_on_one_scope limits l k (record { scope = Count; amount = 0 }) (e ∙ at)).1)) in
      total-elsewhere i _ k old new put other
      ∙ are.none k (omega (arith, past, put-length are_on_one_scope limits l)));
  each = λ k d lt. elim (cases_eq k i) [
    | inl here ↦ (let this = put-here are_on_one_scope limits l k d (here ∙ at) in
        total-here i _ k old new put here ∙ ap (λ (m : Limit). weighed h groups m.scope place) (sym this.0))
    | inr other ↦ (let kept = put-elsewhere are_on_one_scope limits l k d (λ e. other (e ∙ sym at)) in
        total-elsewhere i _ k old new put other
        ∙ are.each k d (ltb-true k (length limits) (sym kept.0 ∙ lt-ltb k _ lt))
        ∙ ap (λ (m : Limit). weighed h groups m.scope place) (sym (kept.1 lt)))
  ];
}

-- and what is allowed on it
pub AreAllowed-put : (h : History) (groups : GroupList) (limits : Limits) (l : Limit) (place i : ℕ) (old new : List ℕ)
    → AreAllowed h groups limits place old → i ≡ index_of limits l
    → HaveTotalAt i (kept_amount l + weighed h groups l.scope place) old new
    → weighed h groups l.scope place ≤ greatest_weight * place
    → AreAllowed h groups (put are_on_one_scope limits l) place new
AreAllowed-put h groups limits l place i old new are at put few = record {
  few = λ k. elim (cases_eq k i) [
    | inl here ↦ omega (arith, total-here i _ k old new put here, few, min-le_right l.amount greatest_amount)
    | inr other ↦ omega (arith, total-elsewhere i _ k old new put other, are.few k)
  ];
  each = λ k d lt. elim (cases_eq k i) [
    | inl here ↦ (let this = put-here are_on_one_scope limits l k d (here ∙ at) in
        total-here i _ k old new put here
        ∙ ap (λ (m : Limit). kept_amount m + weighed h groups m.scope place) (sym this.0))
    | inr other ↦ (let kept = put-elsewhere are_on_one_scope limits l k d (λ e. other (e ∙ sym at)) in
        total-elsewhere i _ k old new put other
        ∙ are.each k d (ltb-true k (length limits) (sym kept.0 ∙ lt-ltb k _ lt))
        ∙ ap (λ (m : Limit). kept_amount m + weighed h groups m.scope place) (sym (kept.1 lt)))
  ];
}

-- what counted on a scope at its place counts on it still
same_count : (groups : GroupList) (limits : Limits) (l : Limit) (x i : ℕ) (d : Limit) → i ≡ index_of limits l
    → (nat_lt i (length limits) && counts_on groups (get_or limits i d).scope x)
    ≡ (nat_lt i (length limits) && counts_on groups l.scope x)
same_count groups limits l x i d at = elim (cases_lt i (length limits)) [
  | inl lt ↦ (let first = passes_at_first (λ m. is_same_scope m.scope l.scope) limits d (omega arith) in
      let here : (get_or limits i d).scope ≡ l.scope =
      ap (λ k. (get_or limits k d).scope) at ∙ same_scope (get_or limits (index_of limits l) d).scope l.scope first in
      ap (λ (s : Scope). nat_lt i (length limits) && counts_on groups s x) here)
  | inr le ↦ rw (le-ltb i (length limits) le) refl
]

or-same : (a b : Bool) → (b || (a && b)) ≡ b
or-same true true = refl
or-same true false = refl
or-same false true = refl
or-same false false = refl

-- masks with a scope put down at its place
pub AreMasks-put : (groups : GroupList) (limits : Limits) (l : Limit) (place : ℕ) (old new : List ℕ) → AreMasks groups limits old
    → place ≡ index_of limits l
    → GainBit (counts_on groups l.scope) place old new
    → AreMasks groups (put are_on_one_scope limits l) new
AreMasks-put groups limits l place old new are at bits x i d below few = elim (cases_eq i place) [
  | inl here ↦ (let this = put-here are_on_one_scope limits l i d (here ∙ at) in
      bits x i below few
      ∙ rw (
        are x i d below few,
        same_count groups limits l x i d (here ∙ at),
        eq-eqb i place here,
        this.0,
        lt-ltb i (length (put are_on_one_scope limits l)) this.1,
        and-true (counts_on groups l.scope x),
      )
      (or-same (nat_lt i (length limits)) (counts_on groups l.scope x)))
  | inr other ↦ (let kept = put-elsewhere are_on_one_scope limits l i d (λ e. other (e ∙ sym at)) in
      bits x i below few
      ∙ rw (are x i d below few, ne_eqb i place other, and-false (counts_on groups l.scope x))
      (elim (cases_lt i (length (put are_on_one_scope limits l))) [
        | inl lt ↦ rw (kept.0, kept.1 lt) refl
        | inr le ↦ (let past : nat_lt i (length limits) ≡ false = sym kept.0 ∙ le-ltb i _ le in
            rw (le-ltb i (length (put are_on_one_scope limits l)) le, past) refl)
      ]))
]
