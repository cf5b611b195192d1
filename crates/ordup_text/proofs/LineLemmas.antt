-- Values that are shown one after the other.
use Rattle.std.proofs.Common.{◌≡◌, ℕ, zero, suc, ◌+◌, ◌<◌, ◌≤◌, ℤ, List, [], ◌∷◌, ◌++◌}
use Rattle.std.proofs.Common.{length, get_or, drop, add-one, Some, refl, ap, inl, inr, arith}
use Rattle.std.specs.Prelude.{◌⊎◌, slice_get, option_map}
use Rattle.ordup_text.specs.Lines.{value_text, values_text}

values_text-next : (objects : List (List ℕ × ℤ)) (values : List ℤ) (i : ℕ) (name : List ℕ) (d : ℤ) → i < length objects
    → i < length values → option_map (λ (e : List ℕ × ℤ). e.0) (slice_get objects i) ≡ Some name
    → values_text (drop i objects) (drop i values)
    ≡ value_text name (get_or values i d) ++ values_text (drop (suc i) objects) (drop (suc i) values)
values_text-next [] values i name d lt less named = absurd (omega arith)
values_text-next (object ∷ objects) [] i name d lt less named = absurd (omega arith)
values_text-next (object ∷ objects) (value ∷ values) zero name d lt less named =
    ap (λ (n : List ℕ). value_text n value ++ values_text objects values) (let e : object.0 ≡ name = cc in e)
values_text-next (object ∷ objects) (value ∷ values) (suc i) name d lt less named =
    values_text-next objects values i name d (omega arith) (omega arith) named

-- the values from one place on
pub values_text-more : (objects : List (List ℕ × ℤ)) (values : List ℤ) (i : ℕ) (name : List ℕ) (d : ℤ) → i < length objects
    → i < length values → option_map (λ (e : List ℕ × ℤ). e.0) (slice_get objects i) ≡ Some name
    → values_text (drop i objects) (drop i values)
    ≡ value_text name (get_or values i d) ++ values_text (drop (i + 1) objects) (drop (i + 1) values)
values_text-more objects values i name d lt less named = rw (add-one i) (values_text-next objects values i name d lt less named)

values_text-none : (objects : List (List ℕ × ℤ)) → values_text objects [] ≡ []
values_text-none [] = refl
values_text-none (object ∷ objects) = refl

-- no values are left where the objects or the values end
pub values_text-end : (objects : List (List ℕ × ℤ)) (values : List ℤ) (i : ℕ) → (length objects ≤ i) ⊎ (length values ≤ i)
    → values_text (drop i objects) (drop i values) ≡ []
values_text-end [] values zero past = refl
values_text-end [] values (suc i) past = refl
values_text-end (object ∷ objects) [] zero past = refl
values_text-end (object ∷ objects) [] (suc i) past = values_text-none (drop i objects)
values_text-end (object ∷ objects) (value ∷ values) zero (inl past) = absurd (omega arith)
values_text-end (object ∷ objects) (value ∷ values) zero (inr past) = absurd (omega arith)
values_text-end (object ∷ objects) (value ∷ values) (suc i) (inl past) = values_text-end objects values i (inl (omega arith))
values_text-end (object ∷ objects) (value ∷ values) (suc i) (inr past) = values_text-end objects values i (inr (omega arith))
