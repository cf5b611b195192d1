-- Lists and tables that are the same, entry by entry.
use Rattle.std.proofs.Common.{◌+◌, ◌<◌, ◌∙◌, ◌∷◌, ◌≡◌, [], ap, arith, Bool, false, get_or, inl, inr, length, List, nat_eq, refl}
use Rattle.std.proofs.Common.{Some, suc, sym, true, zero, ℕ}
use Rattle.std.proofs.lemmas.Bool.{and_from, and_parts, cases_lt, false≢true}
use Rattle.std.proofs.lemmas.Bool.Decides.{Decides-eqb}
use Rattle.std.proofs.lemmas.Slice.Eq.{slice_eq-Decides}
use Rattle.std.specs.Bool.{Decides}
use Rattle.std.specs.Cmp.Lexicographic.{pointwise}
use Rattle.std.specs.Prelude.{◌&&◌, IsTrue, option_map, slice_get}

-- one entry more that is the same
pub same-more : {X : Type 0} (xs ys : List X) (i : ℕ) → ((k : ℕ) (d : X) → k < i → get_or xs k d ≡ get_or ys k d)
    → (j : ℕ) → j ≡ i → ((d : X) → get_or xs j d ≡ get_or ys j d) → (k : ℕ) (d : X) → k < i + 1
    → get_or xs k d ≡ get_or ys k d
same-more xs ys i before j now here k d lt = elim (cases_lt k i) [
  | inl below ↦ before k d below
  | inr at ↦ (let same : k ≡ j = omega arith in rw same (here d))
]

-- lists with an entry that is another are not the same
pub not_same-at : {X : Type 0} (xs ys : List X) (i : ℕ) (d : X) (b : Bool) → (get_or xs i d ≡ get_or ys i d → b ≡ true)
    → b ≡ false
    → (IsTrue false → xs ≡ ys) × (xs ≡ ys → IsTrue false)
not_same-at xs ys i d b same none = (λ is. absurd (false≢true is), λ e. sym none ∙ same (ap (λ zs. get_or zs i d) e))

-- the first of a pair at a place
pub first-at : {V : Type 0} (xs : List (List ℕ × V)) (i : ℕ) (d : List ℕ × V) (name : List ℕ) → i < length xs
    → option_map (λ (e : List ℕ × V). e.0) (slice_get xs i) ≡ Some name → name ≡ (get_or xs i d).0
first-at [] i d name lt is = absurd (omega arith)
first-at (x ∷ xs) zero d name lt is = cc
first-at (x ∷ xs) (suc i) d name lt is = first-at xs i d name (omega arith) is

same-parts : {V : Type 0} (a b : List ℕ) (v w : V) → a ≡ b → v ≡ w
    → (let p : List ℕ × V = (a, v) in let q : List ℕ × V = (b, w) in p ≡ q)
same-parts a b v w e f = rw (e, f) refl

-- names with entries are the same where both are
same-entry : {V : Type 0} (eq : V → V → Bool) → ((v w : V) → Decides (eq v w) (v ≡ w)) → (p q : List ℕ × V)
    → Decides (pointwise nat_eq p.0 q.0 && eq p.1 q.1) (p ≡ q)
same-entry eq decides p q =
    let names = slice_eq-Decides Decides-eqb p.0 q.0 _ refl in
    let entries = decides p.1 q.1 in (
      λ is. (let both = and_parts _ _ is in same-parts p.0 q.0 p.1 q.1 (names.0 both.0) (entries.0 both.1)),
      λ e. and_from _ _ (names.1 (ap (λ r. r.0) e)) (entries.1 (ap (λ r. r.1) e)),
    )

-- what the comparison of two tables of names says, where that of two entries says whether they are the same
pub same-tables : {V : Type 0} (eq : V → V → Bool) → ((v w : V) → Decides (eq v w) (v ≡ w)) → (xs ys : List (List ℕ × V)) (r : Bool)
    → r ≡ pointwise (λ p q. pointwise nat_eq p.0 q.0 && eq p.1 q.1) xs ys → Decides r (xs ≡ ys)
same-tables eq decides xs ys r is = slice_eq-Decides (same-entry eq decides) xs ys r is
