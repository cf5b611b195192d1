-- Two lists that are the same up to a place, and what comes after it.
use Rattle.std.proofs.Common.{◌≡◌, ◌≢◌, ◌∙◌, ℕ, ℤ, ◌+◌, ◌<◌, ◌≤◌, zero, suc, Bool, true, false, not, nat_eq, sum_by, List, [], ◌∷◌, ◌++◌, length, take, arith, ap, sym, refl, min, Option, option_map, Some, None, slice_get, slice_index_or, subst, inl, inr}
use Rattle.std.proofs.lemmas.Bool.{cases_lt}
use Rattle.std.proofs.lemmas.Bool.Decides.{Decides-eqb}
use Rattle.std.proofs.lemmas.Slice.Eq.{slice_eq-Decides}
use Rattle.std.specs.Cmp.Lexicographic.{pointwise}
use Rattle.std.proofs.lemmas.List.{length-take, take_all}
use Rattle.std.proofs.lemmas.List.Sums.{sum_by-append}
use Rattle.ordup_objects.specs.Names.{is_name}
use Rattle.ordup_objects.specs.States.{value_at}
use Rattle.ordup_objects.specs.Tables.{AreNames, Objects, initial_state}
use Rattle.ordup_objects.proofs.TableLemmas.{initial-at, take-next}
use Rattle.ordup_log.specs.Groups.{GroupList, members_at}
use Rattle.ordup_audit.specs.Rows.{member_count}
use Rattle.ordup_series.specs.Ends.{DifferAfter, MembersDifferAfter, group_at}

-- ---- lists

last-same : {X : Type 0} (front : List X) (x y : X) → front ++ x ∷ [] ≡ front ++ y ∷ [] → x ≡ y
last-same [] x y e = cc
last-same (z ∷ front) x y e =
    let rest : front ++ x ∷ [] ≡ front ++ y ∷ [] = cc in
    last-same front x y rest

pub index-is : {X : Type 0} (xs : List X) (i : ℕ) (x d : X) → slice_get xs i ≡ Some x → slice_index_or xs i d ≡ x
index-is [] i x d at = absurd cc
index-is (y ∷ xs) zero x d at = cc
index-is (y ∷ xs) (suc i) x d at = index-is xs i x d at

not-both : (b : Bool) → true ≡ not b → b ≡ true → ⊥
not-both true one other = absurd cc
not-both false one other = absurd cc

not-neither : (b : Bool) → false ≡ not b → b ≡ true
not-neither true none = refl
not-neither false none = absurd cc

-- the comparison of two lists of bytes or numbers says whether they are the same
pub lists-differ : (a b : List ℕ) → true ≡ not (pointwise nat_eq a b) → a ≢ b
lists-differ a b other e =
    let decides = slice_eq-Decides Decides-eqb a b (pointwise nat_eq a b) refl in
    not-both (pointwise nat_eq a b) other (decides.1 e)

pub lists-same : (a b : List ℕ) → false ≡ not (pointwise nat_eq a b) → a ≡ b
lists-same a b none =
    let decides = slice_eq-Decides Decides-eqb a b (pointwise nat_eq a b) refl in
    decides.0 (not-neither (pointwise nat_eq a b) none)

-- an entry more is the same
pub same-at : {X : Type 0} (i : ℕ) (xs ys : List X) (x : X) → take i xs ≡ take i ys → slice_get xs i ≡ Some x → slice_get ys i ≡ Some x
    → take (i + 1) xs ≡ take (i + 1) ys
same-at i xs ys x same at_xs at_ys = take-next xs i x at_xs ∙ (ap (λ l. l ++ x ∷ []) same ∙ sym (take-next ys i x at_ys))

-- an entry differs
pub differ-at : {X : Type 0} (i : ℕ) (xs ys : List X) (x y : X) → take i xs ≡ take i ys → slice_get xs i ≡ Some x
    → slice_get ys i ≡ Some y → x ≢ y → DifferAfter i xs ys
differ-at i xs ys x y same at_xs at_ys other = record {
  same = same;
  differ = λ e. other (last-same (take i ys) x y
      (ap (λ l. l ++ x ∷ []) (sym same) ∙ (sym (take-next xs i x at_xs) ∙ (e ∙ take-next ys i y at_ys))));
}

-- one of the lists ends
pub differ-end : {X : Type 0} (i : ℕ) (xs ys : List X) → take i xs ≡ take i ys → i ≡ min (length xs) (length ys) → xs ≢ ys
    → DifferAfter i xs ys
differ-end i xs ys same at other = record {
  same = same;
  differ = λ e.
      let mine : min (i + 1) (length xs) ≡ min (i + 1) (length ys) = sym (length-take (i + 1) xs) ∙ (ap length e ∙ length-take (i + 1) ys) in
      other (sym (take_all i xs (omega (arith, mine, at))) ∙ (same ∙ take_all i ys (omega (arith, mine, at))));
}

-- ---- tables of objects

entry-named : {V : Type 0} (o : Option (List ℕ × V)) (name : List ℕ) → option_map (λ (e : List ℕ × V). e.0) o ≡ Some name
    → (v : V) × (o ≡ Some (name, v))
entry-named None name is = absurd cc
entry-named (Some (other, v)) name is = (v, cc)

module _ (i : ℕ) (xs ys : Objects) (a b : List ℕ) (same : take i xs ≡ take i ys)
    (in_xs : option_map (λ (e : List ℕ × ℤ). e.0) (slice_get xs i) ≡ Some a)
    (in_ys : option_map (λ (e : List ℕ × ℤ). e.0) (slice_get ys i) ≡ Some b) where
  pub name-differs : a ≢ b → DifferAfter i xs ys
  name-differs other =
      let (v, at_xs) = entry-named (slice_get xs i) a in_xs in
      let (w, at_ys) = entry-named (slice_get ys i) b in_ys in
      differ-at i xs ys (a, v) (b, w) same at_xs at_ys (λ e. other (ap (λ (p : List ℕ × ℤ). p.0) e))

  pub value-differs : value_at (initial_state xs) i ≢ value_at (initial_state ys) i → DifferAfter i xs ys
  value-differs other =
      let (v, at_xs) = entry-named (slice_get xs i) a in_xs in
      let (w, at_ys) = entry-named (slice_get ys i) b in_ys in
      differ-at i xs ys (a, v) (b, w) same at_xs at_ys
      (λ e. other (sym (initial-at xs i a v at_xs) ∙ (ap (λ (p : List ℕ × ℤ). p.1) e ∙ initial-at ys i b w at_ys)))

  pub object-same : a ≡ b → value_at (initial_state xs) i ≡ value_at (initial_state ys) i → take (i + 1) xs ≡ take (i + 1) ys
  object-same name value =
      let (v, at_xs) = entry-named (slice_get xs i) a in_xs in
      let (w, at_ys) = entry-named (slice_get ys i) b in_ys in
      let values : v ≡ w = initial-at xs i a v at_xs ∙ (value ∙ sym (initial-at ys i b w at_ys)) in
      let both : slice_get ys i ≡ Some (a, v) = cc in
      same-at i xs ys (a, v) same at_xs both

-- ---- tables of groups

member_count-push : (groups : GroupList) (g : List ℕ × List ℕ) → member_count (groups ++ g ∷ []) ≡ member_count groups + length g.1
member_count-push groups g =
    let both : sum_by (λ (h : List ℕ × List ℕ). length h.1) (groups ++ g ∷ []) ≡ member_count groups + (0 + length g.1) =
    sum_by-append (λ (h : List ℕ × List ℕ). length h.1) groups (g ∷ []) in
    omega (arith, both)

module _ (i n : ℕ) (xs ys : GroupList) (a b : List ℕ) (same : take i xs ≡ take i ys) (count : n ≡ member_count (take i ys))
    (in_xs : option_map (λ (e : List ℕ × List ℕ). e.0) (slice_get xs i) ≡ Some a)
    (in_ys : option_map (λ (e : List ℕ × List ℕ). e.0) (slice_get ys i) ≡ Some b) where
  pub group-differs : a ≢ b → MembersDifferAfter n xs ys
  group-differs other =
      let (v, at_xs) = entry-named (slice_get xs i) a in_xs in
      let (w, at_ys) = entry-named (slice_get ys i) b in_ys in
      let mine = index-is xs i (a, v) ([], []) at_xs in
      let theirs = index-is ys i (b, w) ([], []) at_ys in (
        i,
        0,
        differ-at i xs ys (a, v) (b, w) same at_xs at_ys (λ e. other (ap (λ (p : List ℕ × List ℕ). p.0) e)),
        rw (mine, theirs) (inl (other, refl)),
        omega (arith, count),
      )

  module _ (these those : List ℕ) (of_xs : these ≡ members_at xs i) (of_ys : those ≡ members_at ys i) where
    pub members-differ : (j : ℕ) → a ≡ b → DifferAfter j these those → MembersDifferAfter (n + j) xs ys
    members-differ j name differ =
        let (v, at_xs) = entry-named (slice_get xs i) a in_xs in
        let (w, at_ys) = entry-named (slice_get ys i) b in_ys in
        let mine = index-is xs i (a, v) ([], []) at_xs in
        let theirs = index-is ys i (b, w) ([], []) at_ys in
        let is_v : these ≡ v = of_xs ∙ ap (λ (p : List ℕ × List ℕ). p.1) mine in
        let is_w : those ≡ w = of_ys ∙ ap (λ (p : List ℕ × List ℕ). p.1) theirs in
        let apart : DifferAfter j v w = subst (λ l. DifferAfter j v l) is_w (subst (λ l. DifferAfter j l those) is_v differ) in (
          i,
          j,
          differ-at i xs ys (a, v) (b, w) same at_xs at_ys
              (λ e. apart.differ (ap (λ (p : List ℕ × List ℕ). take (j + 1) p.1) e)),
          rw (mine, theirs) (inr (name, apart)),
          omega (arith, count),
        )

    pub group-same : a ≡ b → these ≡ those
        → (take (i + 1) xs ≡ take (i + 1) ys) × (n + length those ≡ member_count (take (i + 1) ys))
    group-same name members =
        let (v, at_xs) = entry-named (slice_get xs i) a in_xs in
        let (w, at_ys) = entry-named (slice_get ys i) b in_ys in
        let mine = index-is xs i (a, v) ([], []) at_xs in
        let theirs = index-is ys i (b, w) ([], []) at_ys in
        let is_v : these ≡ v = of_xs ∙ ap (λ (p : List ℕ × List ℕ). p.1) mine in
        let is_w : those ≡ w = of_ys ∙ ap (λ (p : List ℕ × List ℕ). p.1) theirs in
        let values : v ≡ w = sym is_v ∙ (members ∙ is_w) in
        let both : slice_get xs i ≡ Some (b, w) = cc in
        let counted : member_count (take (i + 1) ys) ≡ member_count (take i ys) + length w =
        ap member_count (take-next ys i (b, w) at_ys) ∙ member_count-push (take i ys) (b, w) in
        let size : length those ≡ length w = ap length is_w in
        (same-at i xs ys (b, w) same both at_ys, omega (arith, count, counted, size))

-- one of the tables ends: where it has no group more, the other one has a group with a name
past : {X : Type 0} (xs : List X) (i : ℕ) (d : X) → length xs ≤ i → slice_index_or xs i d ≡ d
past [] zero d le = refl
past [] (suc i) d le = refl
past (x ∷ xs) zero d le = absurd (omega (arith, le))
past (x ∷ xs) (suc i) d le = past xs i d (omega (arith, le))

named : (groups : GroupList) (i : ℕ) → AreNames groups → i < length groups → (group_at groups i).0 ≢ []
named groups i names lt e =
    let name : is_name (group_at groups i).0 ≡ true = names i ([], []) lt in
    let empty : is_name [] ≡ true = subst (λ n. is_name n ≡ true) e name in
    absurd cc

pub groups-end : (i n : ℕ) (xs ys : GroupList) → take i xs ≡ take i ys → n ≡ member_count (take i ys)
    → i ≡ min (length xs) (length ys) → xs ≢ ys → AreNames xs → AreNames ys → MembersDifferAfter n xs ys
groups-end i n xs ys same count at other names_x names_y =
    let differ = differ-end i xs ys same at other in
    let apart : (group_at xs i).0 ≢ (group_at ys i).0 =
    elim (cases_lt i (length xs)) [
      | inl in_xs ↦ (let none : (group_at ys i).0 ≡ [] = ap (λ (g : List ℕ × List ℕ). g.0) (past ys i ([], []) (omega (arith, at, in_xs))) in
          λ e. named xs i names_x in_xs (e ∙ none))
      | inr past_xs ↦ elim (cases_lt i (length ys)) [
        | inl in_ys ↦ (let none : (group_at xs i).0 ≡ [] = ap (λ (g : List ℕ × List ℕ). g.0) (past xs i ([], []) past_xs) in
            λ e. named ys i names_y in_ys (sym e ∙ none))
        | inr past_ys ↦ absurd (other (sym (take_all i xs past_xs) ∙ (same ∙ take_all i ys past_ys)))
      ]
    ] in
    (i, 0, differ, inl (apart, refl), omega (arith, count))
