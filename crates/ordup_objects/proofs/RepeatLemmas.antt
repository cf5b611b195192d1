-- Lists in which nothing comes twice.
use Rattle.std.proofs.Common.{◌≡◌, ℕ, zero, suc, ◌+◌, ◌<◌, Bool, false, List}
use Rattle.std.proofs.Common.{[], ◌∷◌, ◌++◌, length, get_or, drop, drop-cons}
use Rattle.std.proofs.Common.{add-one, refl, ap, ◌∙◌}
use Rattle.std.proofs.Math.Bool.{or-false}
use Rattle.std.specs.Prelude.{◌||◌}
use Rattle.std.specs.List.{list_any}
use Rattle.std.proofs.lemmas.Bool.{or_parts}
use Rattle.std.proofs.lemmas.List.Folds.{list_any-append}
use Rattle.ordup_objects.specs.Repeats.{repeats}

-- an element that does not come again makes no repeat
pub repeats-more : {X : Type 0} (same : X → X → Bool) (xs : List X) (i : ℕ) (d : X) → i < length xs
    → list_any (same (get_or xs i d)) (drop (i + 1) xs) ≡ false → repeats same (drop i xs) ≡ repeats same (drop (i + 1) xs)
repeats-more same xs i d lt none =
    let e : drop i xs ≡ get_or xs i d ∷ drop (i + 1) xs = rw add-one (drop-cons xs i d lt) in
    ap (repeats same) e ∙ ap (λ b. b || repeats same (drop (i + 1) xs)) none

-- an element more makes a repeat where one before is the same
pub repeats-last : {X : Type 0} (same : X → X → Bool) (xs : List X) (x : X) → repeats same xs ≡ false
    → repeats same (xs ++ x ∷ []) ≡ list_any (λ y. same y x) xs
repeats-last same [] x distinct = refl
repeats-last same (y ∷ xs) x distinct =
    let apart = or_parts (list_any (same y) xs) (repeats same xs) distinct in
    rw (list_any-append (same y) xs (x ∷ []), apart.0, repeats-last same xs x apart.1, or-false (same y x)) refl

-- so where none is the same it makes none
pub repeats-push : {X : Type 0} (same : X → X → Bool) (xs : List X) (x : X) → repeats same xs ≡ false
    → list_any (λ y. same y x) xs ≡ false
    → repeats same (xs ++ x ∷ []) ≡ false
repeats-push same xs x distinct none = repeats-last same xs x distinct ∙ none

-- tests that answer alike find alike
pub list_any-alike : {X : Type 0} (p q : X → Bool) → ((x : X) → p x ≡ q x) → (xs : List X) → list_any p xs ≡ list_any q xs
list_any-alike p q alike [] = refl
list_any-alike p q alike (x ∷ xs) = rw (alike x, list_any-alike p q alike xs) refl
