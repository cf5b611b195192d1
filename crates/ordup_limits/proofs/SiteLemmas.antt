-- What is kept to tell which sites lag by more than a limit.
use Rattle.std.proofs.Common.{◌≡◌, ℕ, zero, suc, ◌+◌, ◌-◌, ◌*◌, ◌<◌, ◌≤◌, Bool, true, false, List, [], ◌∷◌, length, get_or, replicate, take}
use Rattle.std.proofs.Common.{length-append, arith, refl, sym, ap, ◌∙◌, inl, inr}
use Rattle.std.specs.Prelude.{◌==◌, ◌||◌, ◌⊎◌, if◌then◌else◌, fold, All}
use Rattle.std.specs.Int.{bit_at}
use Rattle.std.specs.Int.RustNames.{bit_or}
use Rattle.std.proofs.Math.ListN.{set}
use Rattle.std.proofs.lemmas.Bool.{cases_Bool, eq-eqb, eqb-true, false≢true, lt-ltb, ltb-true, or_right}
use Rattle.std.proofs.lemmas.Grind.{get_or-set_at}
use Rattle.std.proofs.lemmas.List.{get_or-set_other}
use Rattle.std.specs.List.{list_any}
use Rattle.std.proofs.lemmas.List.Folds.{list_any_more}
use Rattle.std.proofs.lemmas.Nat.Bits.{bit_at_or, bit_at-lt, bit_at-zero}
use Rattle.ordup_objects.specs.declared.change.Change.{Change}
use Rattle.ordup_objects.specs.Repeats.{repeats}
use Rattle.ordup_objects.specs.Serial.{History, IsLegalHistory, with_more}
use Rattle.ordup_objects.specs.Sizes.{greatest_weight, most_groups, most_objects}
use Rattle.ordup_objects.proofs.SumLemmas.{sum_from-few}
use Rattle.ordup_log.specs.Groups.{GroupList, IsGroup}
use Rattle.ordup_log.specs.Spans.{span, weight, IsScopeKnown}
use Rattle.ordup_log.specs.declared.scope.Scope.{Scope}
use Rattle.ordup_log.specs.declared.scope.Scope.TheVariants.{Object, Group, All as Everything, Count}
use Rattle.ordup_log.proofs.SpanLemmas.{span-longer}
use Rattle.ordup_log.proofs.WeightLemmas.{weight-few}
use Rattle.ordup_limits.specs.declared.limit.Limit.{Limit}
use Rattle.ordup_limits.specs.Entries.{put, latest, Entries}
use Rattle.ordup_limits.specs.Limits.{Limits, are_on_one_scope, is_same_scope}
use Rattle.ordup_limits.specs.StoreLedgers.{allowed, amount_on, counts_within, may_weigh, most_scopes, raised_on, scope_index, AreBelow, AreOver, AreWeights}
use Rattle.ordup_limits.specs.StoreLedgers.{HaveAmounts, SiteLedgerState, WeightsAt}
use Rattle.ordup_limits.specs.Sizes.{greatest_amount}
use Rattle.ordup_limits.specs.Totals.{kept_amount, share}
use Rattle.ordup_limits.proofs.EntryLemmas.{same_scope, is_same_scope-refl}
use Rattle.ordup_limits.proofs.PutLemmas.{repeats-put}

-- ---- weights

-- what the updates up to a place weigh on a scope that is there is little
pub span-few : (h : History) → IsLegalHistory h → (groups : GroupList) → All (λ g. IsGroup g.1) groups → (s : Scope)
    → IsScopeKnown (length h.start) groups s → (place : ℕ) → place ≤ length h.sets
    → span h groups s 0 place ≤ greatest_weight * place
span-few h legal groups are s known place le =
    let same : place - 0 ≡ place = omega arith in
    omega (
      arith,
      sum_from-few (weight h groups s) greatest_weight 0 (place - 0) (λ j lt. weight-few h legal groups are s known j (omega arith)),
      ap (λ n. greatest_weight * n) same,
    )

pub AreWeights-longer : (h : History) (groups : GroupList) (more : List (List Change)) (w : WeightsAt) → AreWeights w h groups
    → AreWeights w (with_more h more) groups
AreWeights-longer h groups more w are = record {
  last = omega (arith, are.last, length-append h.sets more);
  each = λ s known. are.each s known ∙ sym (span-longer h more groups s 0 w.place are.last);
}

-- ---- numbers of scopes

pub scope_index-small : (n : ℕ) (groups : GroupList) (s : Scope) → n ≤ most_objects → length groups ≤ most_groups
    → IsScopeKnown n groups s → scope_index s < most_scopes
scope_index-small n groups (Object x) objects few known = omega (arith, objects, known)
scope_index-small n groups (Group g) objects few known = omega (arith, few, known)
scope_index-small n groups Everything objects few known = omega arith
scope_index-small n groups Count objects few known = omega arith

-- two scopes with one number are one
pub scope_index-same : (n : ℕ) (groups : GroupList) (s t : Scope) → n ≤ most_objects → length groups ≤ most_groups
    → IsScopeKnown n groups s → IsScopeKnown n groups t → scope_index s ≡ scope_index t
    → s ≡ t
scope_index-same n groups (Object x) (Object y) objects few ks kt e = ap Object e
scope_index-same n groups (Object x) (Group h) objects few ks kt e = absurd (omega (arith, objects, ks, e))
scope_index-same n groups (Object x) Everything objects few ks kt e = absurd (omega (arith, objects, ks, e))
scope_index-same n groups (Object x) Count objects few ks kt e = absurd (omega (arith, objects, ks, e))
scope_index-same n groups (Group g) (Object y) objects few ks kt e = absurd (omega (arith, objects, kt, e))
scope_index-same n groups (Group g) (Group h) objects few ks kt e = ap Group (omega (arith, e))
scope_index-same n groups (Group g) Everything objects few ks kt e = absurd (omega (arith, few, ks, e))
scope_index-same n groups (Group g) Count objects few ks kt e = absurd (omega (arith, few, ks, e))
scope_index-same n groups Everything (Object y) objects few ks kt e = absurd (omega (arith, objects, kt, e))
scope_index-same n groups Everything (Group h) objects few ks kt e = absurd (omega (arith, few, kt, e))
scope_index-same n groups Everything Everything objects few ks kt e = refl
scope_index-same n groups Everything Count objects few ks kt e = absurd (omega (arith, e))
scope_index-same n groups Count (Object y) objects few ks kt e = absurd (omega (arith, objects, kt, e))
scope_index-same n groups Count (Group h) objects few ks kt e = absurd (omega (arith, few, kt, e))
scope_index-same n groups Count Everything objects few ks kt e = absurd (omega (arith, e))
scope_index-same n groups Count Count objects few ks kt e = refl

-- ---- totals

-- a weight more on one scope
added-at : (n : ℕ) (groups : GroupList) (totals : List ℕ) (t s : Scope) (weight : ℕ) → n ≤ most_objects
    → length groups ≤ most_groups → IsScopeKnown n groups t → IsScopeKnown n groups s → length totals ≡ most_scopes
    → get_or (raised_on t weight totals) (scope_index s) 0 ≡ get_or totals (scope_index s) 0 + share (is_same_scope t s) weight
added-at n groups totals t s weight objects few kt ks count = elim (cases_Bool (is_same_scope t s)) [
  | inl same ↦ (let e : t ≡ s = same_scope t s same in
      rw (same, ← e) (get_or-set_at totals (scope_index t) (scope_index t) (get_or totals (scope_index t) 0 + weight) 0 refl
      (omega (arith, count, scope_index-small n groups t objects few kt))))
  | inr other ↦ rw other (omega (
    arith,
    get_or-set_other totals (scope_index t) (scope_index s) (get_or totals (scope_index t) 0 + weight) 0
        (λ e. false≢true (sym other ∙ rw (scope_index-same n groups s t objects few ks kt e) (is_same_scope-refl t))),
  ))
]

pub raised-at : (n : ℕ) (groups : GroupList) (old new : WeightsAt) (t s : Scope) (weight : ℕ) → n ≤ most_objects
    → length groups ≤ most_groups → IsScopeKnown n groups t → IsScopeKnown n groups s → length old.totals ≡ most_scopes
    → new ≡ record old { totals = raised_on t weight old.totals }
    → get_or new.totals (scope_index s) 0 ≡ get_or old.totals (scope_index s) 0 + share (is_same_scope t s) weight
raised-at n groups old new t s weight objects few kt ks count same =
    ap (λ (w : WeightsAt). get_or w.totals (scope_index s) 0) same ∙ added-at n groups old.totals t s weight objects few kt ks count

-- ---- amounts

-- the amount on a scope once a limit is put in
pub amount_on-put : (limits : Limits) (l : Limit) (s : Scope)
    → amount_on (put are_on_one_scope limits l) s ≡ (if is_same_scope l.scope s then kept_amount l else amount_on limits s)
amount_on-put [] l s = refl
amount_on-put (k ∷ limits) l s = elim (cases_Bool (is_same_scope k.scope l.scope)) [
  | inl same ↦ (let e : k.scope ≡ l.scope = same_scope k.scope l.scope same in
      rw same (elim (cases_Bool (is_same_scope l.scope s)) [
        | inl here ↦ rw here refl
        | inr other ↦ (let apart : is_same_scope k.scope s ≡ false = rw e other in rw (other, apart) refl)
      ]))
  | inr apart ↦ rw apart (elim (cases_Bool (is_same_scope k.scope s)) [
    | inl here ↦ (let e : k.scope ≡ s = same_scope k.scope s here in
        let no : is_same_scope l.scope s ≡ false = elim (cases_Bool (is_same_scope l.scope s)) [
          | inl yes_ ↦ absurd (false≢true (sym apart ∙ rw (e, same_scope l.scope s yes_) (is_same_scope-refl s)))
          | inr no_ ↦ no_
        ] in
        rw (here, no) refl)
    | inr other ↦ rw other (amount_on-put limits l s)
  ])
]

-- without limits all amounts are the greatest
replicate-at : (n i : ℕ) (x : ℕ) → i < n → get_or (replicate {A = ℕ} n x) i 0 ≡ x
replicate-at zero i x lt = absurd (omega (arith, lt))
replicate-at (suc n) zero x lt = refl
replicate-at (suc n) (suc i) x lt = replicate-at n i x (omega arith)

pub replicate-few : (n i x : ℕ) → get_or (replicate {A = ℕ} n x) i 0 ≤ x
replicate-few zero i x = omega arith
replicate-few (suc n) zero x = omega arith
replicate-few (suc n) (suc i) x = replicate-few n i x

pub HaveAmounts-none : (n : ℕ) (groups : GroupList) → n ≤ most_objects → length groups ≤ most_groups
    → HaveAmounts n groups [] (replicate most_scopes greatest_amount)
HaveAmounts-none n groups objects few s known =
    replicate-at most_scopes (scope_index s) greatest_amount (scope_index-small n groups s objects few known)

pub HaveAmounts-put : (n : ℕ) (groups : GroupList) (limits : Limits) (l : Limit) (amounts : List ℕ) → n ≤ most_objects
    → length groups ≤ most_groups → IsScopeKnown n groups l.scope → length amounts ≡ most_scopes → HaveAmounts n groups limits amounts
    → HaveAmounts n groups (put are_on_one_scope limits l) (set amounts (scope_index l.scope) (kept_amount l))
HaveAmounts-put n groups limits l amounts objects few known count have s there =
    rw (amount_on-put limits l s) (elim (cases_Bool (is_same_scope l.scope s)) [
      | inl same ↦ (let e : l.scope ≡ s = same_scope l.scope s same in
          rw same (get_or-set_at amounts (scope_index l.scope) (scope_index s) (kept_amount l) 0 (ap scope_index (sym e))
          (omega (arith, count, scope_index-small n groups l.scope objects few known))))
      | inr other ↦ rw other (get_or-set_other amounts (scope_index l.scope) (scope_index s) (kept_amount l) 0
          (λ e. false≢true (sym other ∙ rw (sym (scope_index-same n groups s l.scope objects few there known e)) (is_same_scope-refl s)))
          ∙ have s there)
    ])

-- the last limits are each on a scope of its own
distinct-from : (limits : Limits) (entries : Entries) → repeats are_on_one_scope limits ≡ false
    → repeats are_on_one_scope (fold (λ ls e. put are_on_one_scope ls e.limit) limits entries) ≡ false
distinct-from limits [] distinct = distinct
distinct-from limits (e ∷ entries) distinct =
    distinct-from (put are_on_one_scope limits e.limit) entries
    (repeats-put are_on_one_scope limits e.limit
    (λ l m same. rw (same_scope l.scope e.limit.scope same) refl) distinct)

pub latest-distinct : (entries : Entries) → repeats are_on_one_scope (latest entries) ≡ false
latest-distinct entries = distinct-from [] entries refl

-- ---- sites that are over a limit

bit-one : (mask s : ℕ) → bit_at mask s ≡ 1 → (bit_at mask s == 1) ≡ true
bit-one mask s e = eq-eqb (bit_at mask s) 1 e

eqb-false : (a b : ℕ) → (a == b) ≡ false → a ≡ b → ⊥
eqb-false a b other e = false≢true (sym other ∙ eq-eqb a b e)

-- no bit, where no site is over a limit on the scopes of the test
pub AreOver-none : (h : History) (groups : GroupList) (place : ℕ) (sites : List SiteLedgerState) (test : Scope → Bool)
    → ((s : ℕ) (d : SiteLedgerState) (scope : Scope) → s < length sites → IsScopeKnown (length h.start) groups scope → test scope ≡ true
    → span h groups scope 0 place ≤ allowed h groups (get_or sites s d) scope)
    → AreOver h groups place sites test 0
AreOver-none h groups place sites test kept = record {
  some = λ s d lt bit. absurd (omega (arith, eqb-true (bit_at 0 s) 1 bit, bit_at-zero s));
  there = λ s bit. absurd (omega (arith, eqb-true (bit_at 0 s) 1 bit, bit_at-zero s));
  each = λ s d scope lt known is over. absurd (omega (arith, kept s d scope lt known is, over));
}

-- the bits of one scope
pub AreOver-scope : (h : History) (groups : GroupList) (place : ℕ) (sites : List SiteLedgerState) (scope : Scope) (mask : ℕ)
    → IsScopeKnown (length h.start) groups scope → AreBelow h groups sites scope (span h groups scope 0 place) mask
    → AreOver h groups place sites (is_same_scope scope) mask
AreOver-scope h groups place sites scope mask known are = record {
  there = are.there;
  some = λ s d lt bit. (scope, (known, ltb-true _ _ (sym (are.each s d lt) ∙ bit)));
  each = λ s d t lt there same over. (let e : scope ≡ t = same_scope scope t same in
      are.each s d lt ∙ lt-ltb _ _ (rw e over));
}

-- a bit of one of two masks
bit-either : (m n s : ℕ) → (bit_at (bit_or m n) s == 1) ≡ true → ((bit_at m s == 1) ≡ true) ⊎ ((bit_at n s == 1) ≡ true)
bit-either m n s bit = elim (cases_Bool (bit_at m s == 1)) [
  | inl here ↦ inl here
  | inr other ↦ (let both = bit_at_or m n s in
      inr (bit-one n s (omega (
        arith,
        both,
        eqb-true (bit_at (bit_or m n) s) 1 bit,
        bit_at-lt m s,
        bit_at-lt n s,
        eqb-false (bit_at m s) 1 other,
      ))))
]

-- the bits of two masks
pub AreOver-or : (h : History) (groups : GroupList) (place : ℕ) (sites : List SiteLedgerState) (p q r : Scope → Bool) (m n : ℕ)
    → AreOver h groups place sites p m → AreOver h groups place sites q n
    → ((scope : Scope) → IsScopeKnown (length h.start) groups scope → r scope ≡ true → ((p scope ≡ true) ⊎ (q scope ≡ true)))
    → AreOver h groups place sites r (bit_or m n)
AreOver-or h groups place sites p q r m n first second either = record {
  some = λ s d lt bit. elim (bit-either m n s bit) [ inl here ↦ first.some s d lt here | inr there ↦ second.some s d lt there ];
  there = λ s bit. elim (bit-either m n s bit) [ inl here ↦ first.there s here | inr there ↦ second.there s there ];
  each = λ s d scope lt known is over. elim (either scope known is) [
    | inl here ↦ bit-one (bit_or m n) s (omega (
      arith,
      bit_at_or m n s,
      eqb-true (bit_at m s) 1 (first.each s d scope lt known here over),
      bit_at-lt n s,
    ))
    | inr there ↦ bit-one (bit_or m n) s (omega (
      arith,
      bit_at_or m n s,
      eqb-true (bit_at n s) 1 (second.each s d scope lt known there over),
      bit_at-lt m s,
    ))
  ];
}

-- the same by another test, where it asks for no more
pub AreOver-weaker : (h : History) (groups : GroupList) (place : ℕ) (sites : List SiteLedgerState) (p r : Scope → Bool) (m : ℕ)
    → AreOver h groups place sites p m
    → ((scope : Scope) → IsScopeKnown (length h.start) groups scope → r scope ≡ true → p scope ≡ true)
    → AreOver h groups place sites r m
AreOver-weaker h groups place sites p r m are within = record {
  some = are.some;
  there = are.there;
  each = λ s d scope lt known is over. are.each s d scope lt known (within scope known is) over;
}

or-true : (a b : Bool) → (a || b) ≡ true → ((a ≡ true) ⊎ (b ≡ true))
or-true true b e = inl refl
or-true false b e = inr e

-- without changes an update weighs on the count, and all objects are asked about too
pub may_weigh-start : (groups : GroupList) (s : Scope) → may_weigh groups [] s ≡ true
    → ((is_same_scope Everything s ≡ true) ⊎ (is_same_scope Count s ≡ true))
may_weigh-start groups s is = elim (or-true (is_same_scope Everything s || is_same_scope Count s) false is) [
  | inl first ↦ or-true (is_same_scope Everything s) (is_same_scope Count s) first
  | inr none ↦ absurd (false≢true none)
]

-- one change more
pub may_weigh-next : (groups : GroupList) (m : List Change) (k : ℕ) (c : Change) (s : Scope) → k < length m → c ≡ get_or m k c
    → may_weigh groups (take (k + 1) m) s ≡ true
    → ((may_weigh groups (take k m) s ≡ true) ⊎ (counts_within groups c.object s ≡ true))
may_weigh-next groups m k c s lt at is =
    let more : list_any (λ e. counts_within groups e.object s) (take (k + 1) m)
    ≡ (list_any (λ e. counts_within groups e.object s) (take k m) || counts_within groups c.object s) =
    list_any_more (λ (e : Change). counts_within groups e.object s) m k c lt
    ∙ ap (λ (e : Change). list_any (λ f. counts_within groups f.object s) (take k m) || counts_within groups e.object s) (sym at) in
    let fixed = is_same_scope Everything s || is_same_scope Count s in
    elim (or-true fixed (list_any (λ e. counts_within groups e.object s) (take (k + 1) m)) is) [
      | inl first ↦ inl (rw first refl)
      | inr some ↦ elim (or-true (list_any (λ e. counts_within groups e.object s) (take k m)) (counts_within groups c.object s) (rw more at some)) [
        | inl before ↦ inl (rw before (or_right fixed true refl))
        | inr now ↦ inr now
      ]
    ]
