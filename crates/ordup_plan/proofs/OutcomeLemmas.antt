-- The text of an outcome, part by part.
use Rattle.std.proofs.Common.{◌≡◌, ℕ, zero, suc, List, [], ◌∷◌, ◌++◌, ◌+◌, Some, sym, ap, ◌∙◌, arith, append_assoc, codes}
use Rattle.std.specs.Prelude.{option_map, slice_get}
use Rattle.ordup_plan.specs.Outcomes.{name_of, texts_below}

pub site_parts : (old name applied rounds values : List ℕ)
    → (((((old ++ codes "site ") ++ name) ++ (codes " applied " ++ applied)) ++ (codes " rounds " ++ rounds)) ++ values) ++ 10 ∷ []
    ≡ old ++ (codes "site " ++ name ++ codes " applied " ++ applied ++ codes " rounds " ++ rounds ++ values ++ 10 ∷ [])
site_parts old name applied rounds values = simp append_assoc

-- the name of a site that there is
pub name_at : (sites : List (List ℕ × ℕ)) (s : ℕ) (name : List ℕ) → option_map (λ (e : List ℕ × ℕ). e.0) (slice_get sites s) ≡ Some name
    → name ≡ name_of sites s
name_at [] s name is = cc
name_at (e ∷ sites) zero name is = let h : e.0 ≡ name = cc in sym h
name_at (e ∷ sites) (suc s) name is = name_at sites s name is

-- the text of one place more
pub texts_more : (f : ℕ → List ℕ) (n : ℕ) (start old new text : List ℕ) → old ≡ start ++ texts_below f n → new ≡ old ++ text → text ≡ f n
    → new ≡ start ++ texts_below f (n + 1)
texts_more f n start old new text before added is =
    let one : n + 1 ≡ suc n = omega arith in
    rw one (added ∙ ap (λ t. t ++ text) before ∙ ap (λ t. (start ++ texts_below f n) ++ t) is ∙ append_assoc start (texts_below f n) (f n))
