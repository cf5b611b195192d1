-- Which sites an update takes over a limit.
use Rattle.std.proofs.Common.{◌≡◌, ℕ, zero, suc, ◌-◌, ◌<◌, ◌≤◌, Bool, true, false, not, List, [], ◌∷◌, length, get_or, take}
use Rattle.std.proofs.Common.{arith, refl, sym, ap, ◌∙◌, inl, inr}
use Rattle.std.specs.Prelude.{◌==◌, ◌⊎◌, All}
use Rattle.std.specs.Int.{bit_at}
use Rattle.std.specs.List.{list_any}
use Rattle.std.proofs.Math.ListN.{set, length-set}
use Rattle.std.proofs.lemmas.Bool.{cases_Bool, cases_eq, cases_lt, false≢true, le-leb, leb-true, or_parts}
use Rattle.std.proofs.lemmas.Grind.{get_or-set_at}
use Rattle.std.proofs.lemmas.List.{get_or-set_other, get_or-take}
use Rattle.std.proofs.lemmas.List.Folds.{list_all_at}
use Rattle.std.proofs.lemmas.List.Sums.{list_all-from_AllPass}
use Rattle.ordup_objects.specs.declared.change.Change.{Change}
use Rattle.ordup_objects.specs.Marks.{AreMarks}
use Rattle.ordup_objects.specs.Repeats.{repeats}
use Rattle.ordup_objects.specs.Moves.{moves_of}
use Rattle.ordup_objects.specs.Serial.{History, serial, IsLegalHistory, set_at, with_more}
use Rattle.ordup_objects.specs.States.{State}
use Rattle.ordup_objects.specs.Sizes.{most_groups, most_objects, most_updates}
use Rattle.ordup_log.specs.Groups.{GroupList, IsGroup}
use Rattle.ordup_log.specs.Spans.{span, IsScopeKnown}
use Rattle.ordup_log.specs.declared.scope.Scope.{Scope}
use Rattle.ordup_log.specs.declared.scope.Scope.TheVariants.{Object, Group, All as Everything, Count}
use Rattle.ordup_log.proofs.SpanLemmas.{span-inner, span-longer}
use Rattle.ordup_limits.specs.declared.limit.Limit.{Limit}
use Rattle.ordup_limits.specs.Entries.{put}
use Rattle.ordup_limits.specs.Limits.{Limits, are_on_one_scope, is_same_scope, keeps_limit, within}
use Rattle.ordup_limits.specs.StoreLedgers.{allowed, amount_on, may_weigh, most_scopes, scope_index, AreOver, AreWeights, HasLimits}
use Rattle.ordup_limits.specs.StoreLedgers.{StoreLedgerState, SiteLedgerState, StoreStandsFor, WeightsAt}
use Rattle.ordup_limits.specs.Sizes.{greatest_amount}
use Rattle.ordup_limits.specs.Masks.{counts_on}
use Rattle.ordup_limits.specs.Totals.{kept_amount, weight_of, weight_where}
use Rattle.ordup_limits.proofs.EntryLemmas.{same_scope, is_same_scope-refl}
use Rattle.ordup_limits.proofs.LedgerLemmas.{span-difference}
use Rattle.ordup_limits.proofs.PassedLemmas.{keeps-false}
use Rattle.ordup_limits.proofs.PutLemmas.{repeats-put, All-put}
use Rattle.ordup_limits.proofs.SiteLemmas.{span-few, AreWeights-longer, HaveAmounts-put}
use Rattle.ordup_limits.proofs.TotalLemmas.{sum-one, weighed-more}

-- ---- the amount on a scope

-- it is that of a limit, or the greatest
amount_on-cases : (limits : Limits) (s : Scope)
    → (((i : ℕ) × ((i < length limits) × ((d : Limit) → ((get_or limits i d).scope ≡ s) × (amount_on limits s ≡ kept_amount (get_or limits i d)))))
    ⊎ (amount_on limits s ≡ greatest_amount))
amount_on-cases [] s = inr refl
amount_on-cases (l ∷ limits) s = elim (cases_Bool (is_same_scope l.scope s)) [
  | inl here ↦ inl (0, (omega arith, λ d. (same_scope l.scope s here, rw here refl)))
  | inr other ↦ elim (amount_on-cases limits s) [
    | inl found ↦ inl (suc found.0, (omega (arith, found.1.0), λ d. ((found.1.1 d).0, rw other (found.1.1 d).1)))
    | inr none ↦ inr (rw other none)
  ]
]

-- a scope that a limit has
any-scope : (limits : Limits) (l : Limit) (i : ℕ) (d : Limit) → list_any (are_on_one_scope l) limits ≡ false → i < length limits
    → is_same_scope l.scope (get_or limits i d).scope ≡ false
any-scope [] l i d none lt = absurd (omega (arith, lt))
any-scope (m ∷ limits) l zero d none lt = (or_parts (is_same_scope l.scope m.scope) (list_any (are_on_one_scope l) limits) none).0
any-scope (m ∷ limits) l (suc i) d none lt =
    any-scope limits l i d (or_parts (is_same_scope l.scope m.scope) (list_any (are_on_one_scope l) limits) none).1 (omega (arith, lt))

-- of limits that are each on a scope of its own, it is that of the one on the scope
amount_on-at : (limits : Limits) (i : ℕ) (d : Limit) → repeats are_on_one_scope limits ≡ false → i < length limits
    → amount_on limits (get_or limits i d).scope ≡ kept_amount (get_or limits i d)
amount_on-at [] i d distinct lt = absurd (omega (arith, lt))
amount_on-at (l ∷ limits) zero d distinct lt = rw (is_same_scope-refl l.scope) refl
amount_on-at (l ∷ limits) (suc i) d distinct lt =
    let parts = or_parts (list_any (are_on_one_scope l) limits) (repeats are_on_one_scope limits) distinct in
    let other = any-scope limits l i d parts.0 (omega (arith, lt)) in
    rw other (amount_on-at limits i d parts.1 (omega (arith, lt)))

-- ---- scopes on which an update does not weigh

weight_of-untouched : (p : ℕ → Bool) (v : State) (m : List Change) → list_any (λ c. p c.object) m ≡ false
    → weight_of p (moves_of v m) ≡ 0
weight_of-untouched p v [] none = refl
weight_of-untouched p v (c ∷ m) none =
    let parts = or_parts (p c.object) (list_any (λ e. p e.object) m) none in
    rw parts.0 (omega (arith, weight_of-untouched p v m parts.1))

span-unmoved : (h : History) → IsLegalHistory h → (groups : GroupList) → All (λ g. IsGroup g.1) groups → (s : Scope)
    → IsScopeKnown (length h.start) groups s → (place : ℕ) → 0 < place → place ≤ length h.sets
    → may_weigh groups (set_at h place) s ≡ false
    → span h groups s 0 place ≡ span h groups s 0 (place - 1)
span-unmoved h legal groups are (Object x) known place some last none =
    let f = weight_where (counts_on groups (Object x)) h in
    let untouched : list_any (λ c. counts_on groups (Object x) c.object) (set_at h place) ≡ false = none in
    let light : f (place - 1) ≡ 0 = weight_of-untouched (counts_on groups (Object x)) (serial h (place - 1)) (set_at h place) untouched in
    omega (
      arith,
      weighed-more h legal groups are (Object x) known (place - 1) place (omega arith) last,
      sum-one f (place - 1) (place - (place - 1)) (omega (arith, some)),
      light,
    )
span-unmoved h legal groups are (Group g) known place some last none =
    let f = weight_where (counts_on groups (Group g)) h in
    let untouched : list_any (λ c. counts_on groups (Group g) c.object) (set_at h place) ≡ false = none in
    let light : f (place - 1) ≡ 0 = weight_of-untouched (counts_on groups (Group g)) (serial h (place - 1)) (set_at h place) untouched in
    omega (
      arith,
      weighed-more h legal groups are (Group g) known (place - 1) place (omega arith) last,
      sum-one f (place - 1) (place - (place - 1)) (omega (arith, some)),
      light,
    )
span-unmoved h legal groups are Everything known place some last none = absurd (false≢true (sym none))
span-unmoved h legal groups are Count known place some last none = absurd (false≢true (sym none))

-- ---- what a site passes

-- a scope on which the updates weigh more than is allowed has a limit that the span passes
passes : (h : History) → IsLegalHistory h → (groups : GroupList) → All (λ g. IsGroup g.1) groups → (limits : Limits)
    (site : SiteLedgerState) (scope : Scope) (place : ℕ) → HasLimits (length h.start) groups limits site
    → IsScopeKnown (length h.start) groups scope → place ≤ length h.sets → length h.sets ≤ most_updates
    → allowed h groups site scope < span h groups scope 0 place
    → within h groups limits site.reported.place place ≡ false
passes h legal groups are limits site scope place has known last few over =
    let most = span-few h legal groups are scope known place last in
    let amount = has.amounts scope known in
    elim (amount_on-cases limits scope) [
      | inl found ↦ (let i = found.0 in
          let d : Limit = record { scope = Count; amount = 0 } in
          let l = get_or limits i d in
          let same : l.scope ≡ scope = (found.1.1 d).0 in
          let more : l.amount < span h groups scope site.reported.place place =
          omega (arith, over, most, last, few, amount, (found.1.1 d).1, span-difference h groups scope site.reported.place place) in
          list_all_at (keeps_limit h groups site.reported.place place) limits i d found.1.0
          (keeps-false h groups site.reported.place place l (rw same more)))
      | inr none ↦ absurd (omega (arith, over, most, last, few, amount, none))
    ]

-- a limit that the span keeps
keeps-at : (h : History) (groups : GroupList) (limits : Limits) (a b i : ℕ) (d : Limit) → i < length limits
    → within h groups limits a b ≡ true → span h groups (get_or limits i d).scope a b ≤ (get_or limits i d).amount
keeps-at h groups limits a b i d lt is = elim (cases_Bool (keeps_limit h groups a b (get_or limits i d))) [
  | inl kept ↦ leb-true (span h groups (get_or limits i d).scope a b) (get_or limits i d).amount kept
  | inr not_kept ↦ absurd (false≢true (sym (list_all_at (keeps_limit h groups a b) limits i d lt not_kept) ∙ is))
]

-- A mask tells of a site whether the update at a place takes it over a limit, where it was over none before it.
pub over-exact : (h : History) → IsLegalHistory h → (groups : GroupList) → All (λ g. IsGroup g.1) groups → (place mask : ℕ)
    (sites : List SiteLedgerState) → 0 < place → place ≤ length h.sets → length h.sets ≤ most_updates
    → AreOver h groups place sites (may_weigh groups (set_at h place)) mask
    → (s : ℕ) (d : SiteLedgerState) (limits : Limits) → s < length sites → HasLimits (length h.start) groups limits (get_or sites s d)
    → within h groups limits (get_or sites s d).reported.place (place - 1) ≡ true
    → (bit_at mask s == 1) ≡ not (within h groups limits (get_or sites s d).reported.place place)
over-exact h legal groups are place mask sites some last few over s d limits lt has before =
    let site = get_or sites s d in
    let a = site.reported.place in
    elim (cases_Bool (bit_at mask s == 1)) [
      | inl bit ↦ (let found = over.some s d lt bit in
          rw (bit, passes h legal groups are limits site found.0 place has found.1.0 last few found.1.1) refl)
      | inr none ↦ (let all : within h groups limits a place ≡ true =
          list_all-from_AllPass (keeps_limit h groups a place) limits
          (λ i e below. (let l = get_or limits i e in
          let known = has.known i e below in
          let amount = has.amounts l.scope known ∙ amount_on-at limits i e has.distinct below in
          let light : span h groups l.scope a place ≤ l.amount = elim (cases_Bool (may_weigh groups (set_at h place) l.scope)) [
            | inl touched ↦ elim (cases_lt (allowed h groups site l.scope) (span h groups l.scope 0 place)) [
              | inl more ↦ absurd (false≢true (sym none ∙ over.each s d l.scope lt known touched more))
              | inr less ↦ omega (arith, less, amount, span-difference h groups l.scope a place)
            ]
            | inr untouched ↦ omega (
              arith,
              span-unmoved h legal groups are l.scope known place some last untouched,
              span-difference h groups l.scope a place,
              span-difference h groups l.scope a (place - 1),
              keeps-at h groups limits a (place - 1) i e below before,
            )
          ] in
          le-leb (span h groups l.scope a place) l.amount light)) in
          rw (none, all) refl)
    ]

-- ---- the ledger of a store

-- where one site changes, and no weight that all keep grows
pub StoreStandsFor-with_site : (l : StoreLedgerState) (h : History) (groups : GroupList) (s : ℕ) (site : SiteLedgerState) (kept : List ℕ)
    → StoreStandsFor l h groups → s < length l.sites → AreWeights site.reported h groups
    → ((scope : Scope) → IsScopeKnown (length h.start) groups scope
    → (get_or kept (scope_index scope) 0 ≤ allowed h groups site scope)
    × (get_or kept (scope_index scope) 0 ≤ get_or l.kept (scope_index scope) 0))
    → StoreStandsFor (record l { sites = set l.sites s site; kept = kept }) h groups
StoreStandsFor-with_site l h groups s site kept stand lt weights less = record {
  objects = stand.objects;
  masks = stand.masks;
  added = stand.added;
  sites = λ t d below. (let there : t < length l.sites = rw (length-set l.sites s site) at below in elim (cases_eq t s) [
    | inl same ↦ rw (get_or-set_at l.sites s t site d same lt) weights
    | inr other ↦ rw (get_or-set_other l.sites s t site d other) (stand.sites t d there)
  ]);
  kept = λ t d scope below known. (let there : t < length l.sites = rw (length-set l.sites s site) at below in elim (cases_eq t s) [
    | inl same ↦ rw (get_or-set_at l.sites s t site d same lt) (less scope known).0
    | inr other ↦ rw (get_or-set_other l.sites s t site d other)
        (omega (arith, (less scope known).1, stand.kept t d scope there known))
  ]);
}

-- a site that has reported more keeps its limits up to no smaller weights
pub allowed-reported : (h : History) (groups : GroupList) (old new : SiteLedgerState) (scope : Scope) → new.amounts ≡ old.amounts
    → old.reported.place ≤ new.reported.place → allowed h groups old scope ≤ allowed h groups new scope
allowed-reported h groups old new scope same le =
    omega (
      arith,
      ap (λ (amounts : List ℕ). get_or amounts (scope_index scope) 0) same,
      span-inner h groups scope 0 0 old.reported.place new.reported.place (omega arith) le,
    )

-- updates that are added later leave it as it was
pub StoreStandsFor-longer : (l : StoreLedgerState) (h : History) (groups : GroupList) (more : List (List Change)) → StoreStandsFor l h groups
    → StoreStandsFor l (with_more h more) groups
StoreStandsFor-longer l h groups more stand =
    record {
      objects = stand.objects;
      masks = stand.masks;
      added = AreWeights-longer h groups more l.added stand.added;
      sites = λ s d lt. AreWeights-longer h groups more (get_or l.sites s d).reported (stand.sites s d lt);
      kept = λ s d scope lt known. (let site = get_or l.sites s d in
          omega (
            arith,
            stand.kept s d scope lt known,
            span-longer h more groups scope 0 site.reported.place (stand.sites s d lt).last,
          ));
    }

-- a limit that is put in is one of the site, once its amount is put down
pub HasLimits-put : (n : ℕ) (groups : GroupList) (limits : Limits) (l : Limit) (site : SiteLedgerState) → n ≤ most_objects
    → length groups ≤ most_groups → IsScopeKnown n groups l.scope → length site.amounts ≡ most_scopes → HasLimits n groups limits site
    → HasLimits n groups (put are_on_one_scope limits l) (record site { amounts = set site.amounts (scope_index l.scope) (kept_amount l) })
HasLimits-put n groups limits l site objects few known count has = record {
  known = All-put (λ (m : Limit). IsScopeKnown n groups m.scope) are_on_one_scope limits l has.known known;
  distinct = repeats-put are_on_one_scope limits l (λ k m same. rw (same_scope k.scope l.scope same) refl) has.distinct;
  amounts = HaveAmounts-put n groups limits l site.amounts objects few known count has.amounts;
}

-- the totals of the objects are their marks
pub AreMarks-totals : (h : History) (groups : GroupList) (w : WeightsAt) (n : ℕ) (marks : List ℕ) → AreWeights w h groups
    → n ≡ length h.start → length marks ≡ n → marks ≡ take n w.totals → AreMarks h w.place marks
AreMarks-totals h groups w n marks are all count same x lt =
    ap (λ (ms : List ℕ). get_or ms x 0) same
    ∙ get_or-take n w.totals x 0 (omega (arith, lt, count))
    ∙ are.each (Object x) (omega (arith, lt, count, all))
