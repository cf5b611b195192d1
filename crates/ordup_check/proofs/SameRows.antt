-- A text is read as rows in one way alone.
use Rattle.ordup_audit.proofs.Common.{◌++◌, ◌∙◌, ◌∷◌, ◌≡◌, [], ap, List, None, refl, same_Some, sym, ℕ}
use Rattle.csv.specs.Machine.{next_record}
use Rattle.csv.specs.Reading.{Reached, default_config}
use Rattle.csv.specs.declared.parser.State.{State}
use Rattle.ordup_rows.specs.Rows.{Row}

-- two lists of rows that begin alike go on from one place
pub one_place : (before a b : List Row) (s t u : State) (text x y : List ℕ) → Reached default_config s text (before ++ a) t x
    → Reached default_config s text (before ++ b) u y
    → (v : State) × (left : List ℕ) × Reached default_config v left a t x × Reached default_config v left b u y
unfolding Reached
one_place [] a b s t u text x y h k = (s, text, h, k)
one_place (row ∷ before) a b s t u text x y (p, e, is, h) (q, f, same, k) =
    one_place before a b p.1 t u p.2 x y h (rw (same_Some q p (sym f ∙ e)) at k)

-- from one place one row is read
pub one_row : (row other : Row) (more : List Row) (v t u : State) (left x y : List ℕ) → Reached default_config v left (row ∷ []) t x
    → Reached default_config v left (other ∷ more) u y → row ≡ other
unfolding Reached
one_row row other more v t u left x y (p, e, is, h) (q, f, same, k) = is ∙ (ap (λ z. z.0) (same_Some p q (sym e ∙ f)) ∙ sym same)

-- the first rows of a text are the first of all of them
pub first_of_all : (front all : List Row) (s t u : State) (text x y : List ℕ) → Reached default_config s text front t x
    → Reached default_config s text all u y → next_record default_config u [] [] y ≡ None
    → (more : List Row) × (all ≡ front ++ more)
unfolding Reached
first_of_all [] all s t u text x y h k none = (all, refl)
first_of_all (row ∷ front) [] s t u text x y (p, e, is, h) (same, whole) none = absurd (cc (rw (same, whole) at e))
first_of_all (row ∷ front) (first ∷ all) s t u text x y (p, e, is, h) (q, f, same, k) none =
    let one : q ≡ p = same_Some q p (sym f ∙ e) in
    let (more, rest) = first_of_all front all p.1 t u p.2 x y h (rw one at k) none in
    let rows : first ≡ row = same ∙ (ap (λ z. z.0) one ∙ sym is) in
    (more, ap (λ r. r ∷ all) rows ∙ ap (λ l. row ∷ l) rest)
