-- Records that are the same as far as each two go, and one record more.
use Rattle.std.proofs.Common.{◌≡◌, ◌∙◌, ◌⊎◌, ℕ, ◌+◌, ◌<◌, ◌≤◌, Bool, true, false, List, [], ◌∷◌, ◌++◌, length, not, take, arith, ap, sym, refl, min, subst, inl, inr, Option, Some, None, get_or}
use Rattle.std.specs.Prelude.{All, Contains, IfSome, if◌then◌else◌, nat_lt, fold}
use Rattle.std.proofs.lemmas.Bool.{cases_lt, ltb-false, ltb-true}
use Rattle.std.proofs.lemmas.Slice.Eq.{slice_eq-Decides}
use Rattle.std.specs.Bool.{Decides}
use Rattle.std.specs.Cmp.Lexicographic.{pointwise}
use Rattle.std.proofs.lemmas.List.{get_or-take, length-take, take-take, take_all}
use Rattle.std.proofs.lemmas.List.Elements.{All-contains, All-nil, All-push, All-weaker, Contains-append_left, Contains-append_right, Contains-push, Contains-push_cases}
use Rattle.ordup_objects.specs.declared.change.Change.{Change}
use Rattle.ordup_objects.specs.States.{State, after}
use Rattle.ordup_objects.specs.Tables.{Objects, initial_state}
use Rattle.ordup_log.specs.Groups.{GroupList}
use Rattle.ordup_audit.specs.Records.{RecordState}
use Rattle.ordup_audit.specs.Validity.{IsValid}
use Rattle.ordup_series.specs.Ends.{DifferAfter, TablesDifferAtRow}
use Rattle.ordup_series.specs.declared.verdict.SeriesReason.TheVariants.{NotNext, NotSame, OfRecord}
use Rattle.ordup_series.specs.declared.verdict.SeriesVerdict.{SeriesVerdict}
use Rattle.ordup_series.specs.declared.verdict.SeriesVerdict.TheVariants.{Fewest, No}
use Rattle.ordup_sites.specs.Audits.{IsLongest, IsSitesVerdict, is_longer}
use Rattle.ordup_sites.specs.Sites.{AreEachTwoSame, AreSame, AreValidSites, DiffersAtFirst, DiffersFrom, IsFrontOf, SameRecordsHaveTheSameValues, update_at}

-- ---- lists that are compared entry by entry

not-both : (b : Bool) → true ≡ not b → b ≡ true → ⊥
not-both true one other = absurd cc
not-both false one other = absurd cc

not-neither : (b : Bool) → false ≡ not b → b ≡ true
not-neither true none = refl
not-neither false none = absurd cc

module _ {X : Type 0} (eq : X → X → Bool) (decides : (x y : X) → Decides (eq x y) (x ≡ y)) (xs ys : List X) where
  pub others : true ≡ not (pointwise eq xs ys) → xs ≡ ys → ⊥
  others other e = not-both (pointwise eq xs ys) other ((slice_eq-Decides decides xs ys (pointwise eq xs ys) refl).1 e)

  pub alike : false ≡ not (pointwise eq xs ys) → xs ≡ ys
  alike none = (slice_eq-Decides decides xs ys (pointwise eq xs ys) refl).0 (not-neither (pointwise eq xs ys) none)

-- ---- lists that begin with others

module _ {X : Type 0} where
  front-self : (xs : List X) → IsFrontOf xs xs
  front-self xs = take_all (length xs) xs (omega arith)

  front-le : (xs ys : List X) → IsFrontOf xs ys → length xs ≤ length ys
  front-le xs ys is =
      let both : min (length xs) (length ys) ≡ length xs = sym (length-take (length xs) ys) ∙ ap length is in
      omega (arith, both)

  -- the shorter one is the front
  front-shorter : (xs ys : List X) → length xs ≤ length ys → IsFrontOf xs ys ⊎ IsFrontOf ys xs → IsFrontOf xs ys
  front-shorter xs ys le (inl is) = is
  front-shorter xs ys le (inr is) =
      let same : xs ≡ ys = sym (take_all (length ys) xs le) ∙ is in
      subst (λ zs. IsFrontOf xs zs) same (front-self xs)

  -- fronts of one list
  fronts : (xs ys zs : List X) → IsFrontOf xs zs → IsFrontOf ys zs → length xs ≤ length ys → IsFrontOf xs ys
  fronts xs ys zs first second le = ap (take (length xs)) (sym second) ∙ (take-take (length xs) (length ys) zs le ∙ first)

  front-longer : (xs ys zs : List X) → IsFrontOf xs ys → IsFrontOf ys zs → IsFrontOf xs zs
  front-longer xs ys zs first second =
      sym (take-take (length xs) (length ys) zs (front-le xs ys first)) ∙ (ap (take (length xs)) second ∙ first)

  -- what is the same as a list is the same as its front
  fronts-same : (xs ys zs : List X) → IsFrontOf xs ys → IsFrontOf ys zs ⊎ IsFrontOf zs ys → IsFrontOf xs zs ⊎ IsFrontOf zs xs
  fronts-same xs ys zs front (inl longer) = inl (front-longer xs ys zs front longer)
  fronts-same xs ys zs front (inr shorter) = elim (cases_lt (length xs) (length zs)) [
    | inl lt ↦ inl (fronts xs zs ys front shorter (omega (arith, lt)))
    | inr ge ↦ inr (fronts zs xs ys shorter front ge)
  ]

  takes-same : (xs ys : List X) (k : ℕ) → k ≤ length xs → k ≤ length ys → IsFrontOf xs ys ⊎ IsFrontOf ys xs → take k xs ≡ take k ys
  takes-same xs ys k in_xs in_ys (inl is) = ap (take k) (sym is) ∙ take-take k (length xs) ys in_xs
  takes-same xs ys k in_xs in_ys (inr is) = sym (ap (take k) (sym is) ∙ take-take k (length ys) xs in_ys)

  other-way : (xs ys : List X) → IsFrontOf xs ys ⊎ IsFrontOf ys xs → IsFrontOf ys xs ⊎ IsFrontOf xs ys
  other-way xs ys (inl is) = inr is
  other-way xs ys (inr is) = inl is

  -- where both have an entry it is the same
  entry-same : (xs ys : List X) (i : ℕ) (d : X) → i < length xs → i < length ys → IsFrontOf xs ys ⊎ IsFrontOf ys xs
      → get_or xs i d ≡ get_or ys i d
  entry-same xs ys i d in_xs in_ys (inl is) = ap (λ l. get_or l i d) (sym is) ∙ get_or-take (length xs) ys i d in_xs
  entry-same xs ys i d in_xs in_ys (inr is) = sym (ap (λ l. get_or l i d) (sym is) ∙ get_or-take (length ys) xs i d in_ys)

-- ---- records that are the same

same-self : (r : RecordState) → AreSame r r
same-self r = record { objects = refl; groups = refl; updates = inl (front-self r.sets) }

same-sym : (q r : RecordState) → AreSame q r → AreSame r q
same-sym q r is = record { objects = sym is.objects; groups = sym is.groups; updates = other-way q.sets r.sets is.updates }

-- what is the same as a record is the same as one that has no more updates
same-shorter : (q m r : RecordState) → AreSame q m → length q.sets ≤ length m.sets → AreSame m r → AreSame q r
same-shorter q m r same le also = record {
  objects = also.objects ∙ same.objects;
  groups = also.groups ∙ same.groups;
  updates = fronts-same q.sets m.sets r.sets (front-shorter q.sets m.sets le same.updates) also.updates;
}

-- and what differs from it differs from that one at the same row, or is the same
differs-shorter : (q m r : RecordState) (row : ℕ) → AreSame q m → length q.sets ≤ length m.sets → DiffersFrom m r row
    → AreSame q r ⊎ DiffersFrom q r row
differs-shorter q m r row same le (inl tables) =
    inr (inl (subst (λ g. TablesDifferAtRow q.objects g r row) same.groups
    (subst (λ o. TablesDifferAtRow o m.groups r row) same.objects tables)))
differs-shorter q m r row same le (inr (objects, groups, (i, j, in_m, in_r, front, differ, at))) =
    let is = front-shorter q.sets m.sets le same.updates in
    elim (cases_lt i (length q.sets)) [
      | inl in_q ↦ inr (inr (
        objects ∙ same.objects,
        groups ∙ same.groups,
        (
          i,
          j,
          in_q,
          in_r,
          ap (take i) (sym is) ∙ (take-take i (length q.sets) m.sets (omega (arith, in_q)) ∙ front),
          subst (λ u. DifferAfter j u (update_at r i)) (sym (entry-same q.sets m.sets i [] in_q in_m same.updates)) differ,
          at,
        ),
      ))
      | inr past ↦ inl (record {
        objects = objects ∙ same.objects;
        groups = groups ∙ same.groups;
        updates = inl (sym (take-take (length q.sets) i r.sets past)
            ∙ (ap (take (length q.sets)) (sym front) ∙ (take-take (length q.sets) i m.sets past ∙ is)));
      })
    ]

pub differs-not_same : (q r : RecordState) (row : ℕ) → DiffersFrom q r row → AreSame q r → ⊥
differs-not_same q r row (inl (inl (i, differ, at))) same = differ.differ (ap (λ (o : Objects). take (i + 1) o) (sym same.objects))
differs-not_same q r row (inl (inr (objects, n, (k, j, differ, within, count), at))) same =
    differ.differ (ap (λ (g : GroupList). take (k + 1) g) (sym same.groups))
differs-not_same q r row (inr (objects, groups, (i, j, in_q, in_r, front, differ, at))) same =
    differ.differ (ap (take (j + 1)) (entry-same q.sets r.sets i [] in_q in_r same.updates))

pub same_records_have_the_same_values : SameRecordsHaveTheSameValues
same_records_have_the_same_values q r k same in_q in_r =
    let starts : initial_state q.objects ≡ initial_state r.objects = ap (λ (o : Objects). initial_state o) (sym same.objects) in
    ap (λ (s : State). fold (λ v m. after m v) s (take k q.sets)) starts
    ∙ ap (λ (l : List (List Change)). fold (λ v m. after m v) (initial_state r.objects) l)
    (takes-same q.sets r.sets k in_q in_r same.updates)

-- ---- one record more

module _ (done : List RecordState) (x : RecordState) where
  nothing : (q : RecordState) → done ≡ [] → Contains done q → ⊥
  nothing q empty at = let none : at.0 < 0 = subst (λ (l : List RecordState). at.0 < length l) empty at.1 in absurd (omega (arith, none))

  -- the same as the longest is the same as each
  each-same : (o : Option RecordState) → AreEachTwoSame done → IsLongest done o → IfSome o (λ m. AreSame m x) → (q : RecordState)
      → Contains done q → AreSame q x
  each-same None same empty is q at = absurd (nothing q empty at)
  each-same (Some m) same (one, longest) is q at =
      same-shorter q m x (same q m at one) (All-contains (λ p. length p.sets ≤ length m.sets) done q longest at) is

  pub valid-push : (o : Option RecordState) → AreValidSites done → IsLongest done o → IfSome o (λ m. AreSame m x) → IsValid x
      → AreValidSites (done ++ x ∷ [])
  valid-push o valid longest same is = (
    All-push IsValid done x valid.0 is,
    λ q r at_q at_r. elim (Contains-push_cases done x q at_q) [
      | inl in_q ↦ elim (Contains-push_cases done x r at_r) [
        | inl in_r ↦ valid.1 q r in_q in_r
        | inr is_r ↦ subst (λ z. AreSame q z) is_r (each-same o valid.1 longest same q in_q)
      ]
      | inr is_q ↦ subst (λ z. AreSame z r) is_q (elim (Contains-push_cases done x r at_r) [
        | inl in_r ↦ same-sym r x (each-same o valid.1 longest same r in_r)
        | inr is_r ↦ subst (λ z. AreSame x z) is_r (same-self x)
      ])
    ],
  )

  longest-cases : (m : RecordState) → Contains done m → All (λ q. length q.sets ≤ length m.sets) done → (b : Bool)
      → nat_lt (length m.sets) (length x.sets) ≡ b → IsLongest (done ++ x ∷ []) (if b then Some x else Some m)
  longest-cases m one longest true is = (
    Contains-push done x,
    All-push (λ q. length q.sets ≤ length x.sets) done x
        (All-weaker (λ q. length q.sets ≤ length m.sets) (λ q. length q.sets ≤ length x.sets) (λ q le. omega (arith, le, ltb-true (length m.sets) (length x.sets) is)) done longest)
        (omega arith),
  )
  longest-cases m one longest false is = (
    Contains-append_left done (x ∷ []) m one,
    All-push (λ q. length q.sets ≤ length m.sets) done x longest (ltb-false (length m.sets) (length x.sets) is),
  )

  pub longest-push : (o : Option RecordState) → IsLongest done o → IsLongest (done ++ x ∷ []) (if is_longer o x then Some x else o)
  longest-push None empty = (
    Contains-push done x,
    All-push (λ q. length q.sets ≤ length x.sets) done x
        (subst (λ l. All (λ q. length q.sets ≤ length x.sets) l) (sym empty) (All-nil (λ q. length q.sets ≤ length x.sets))) (omega arith),
  )
  longest-push (Some m) (one, longest) = longest-cases m one longest (nat_lt (length m.sets) (length x.sets)) refl

  -- a record that differs from the longest
  pub differs-first : (o : Option RecordState) (row : ℕ) → AreEachTwoSame done → IsLongest done o → (o ≡ None → ⊥)
      → IfSome o (λ m. DiffersFrom m x row) → DiffersAtFirst done x row
  differs-first None row same empty some differs = absurd (some refl)
  differs-first (Some m) row same (one, longest) some differs = record {
    one = (m, one, differs);
    each = λ q at. differs-shorter q m x row (same q m at one)
        (All-contains (λ p. length p.sets ≤ length m.sets) done q longest at) differs;
  }

-- ---- verdicts

-- there is no reason against a record of valid sites
pub no_reason : (done : List RecordState) (r : RecordState) (rest : List RecordState) (v : SeriesVerdict) → AreValidSites (done ++ r ∷ rest)
    → IsSitesVerdict done r v → (n : ℕ) × (v ≡ Fewest n)
no_reason done r rest (Fewest n) valid is = (n, refl)
no_reason done r rest (No place row NotNext) valid is = absurd is
no_reason done r rest (No place row NotSame) valid (at, own, first) =
    let (q, at_q, differs) = first.one in
    let there : Contains (r ∷ rest) r = (0, omega arith, refl) in
    absurd (differs-not_same q r row differs
    (valid.1 q r (Contains-append_left done (r ∷ rest) q at_q) (Contains-append_right done (r ∷ rest) r there)))
no_reason done r rest (No place row (OfRecord why)) valid (at, invalid, is) =
    let there : Contains (r ∷ rest) r = (0, omega arith, refl) in
    absurd (invalid (All-contains IsValid (done ++ r ∷ rest) r valid.0 (Contains-append_right done (r ∷ rest) r there)))
