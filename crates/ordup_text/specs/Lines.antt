-- Lines of text.
use Rattle.std.specs.Prelude.{ℕ, ℤ, List, [], ◌∷◌, ◌++◌}
use Rattle.std.specs.Fmt.{decimal, signed_decimal}

-- what was done, and a name
abbrev pub named_text : List ℕ → List ℕ → List ℕ
named_text done name = done ++ name ++ 10 ∷ []

-- what was done, and a number
abbrev pub done_text : List ℕ → ℕ → List ℕ
done_text done number = done ++ decimal number ++ 10 ∷ []

-- what was done, a name and a number
abbrev pub numbered_text : List ℕ → List ℕ → ℕ → List ℕ
numbered_text done name number = done ++ name ++ 32 ∷ [] ++ decimal number ++ 10 ∷ []

-- ` X=V`
abbrev pub value_text : List ℕ → ℤ → List ℕ
value_text name value = 32 ∷ [] ++ name ++ 61 ∷ [] ++ signed_decimal value

-- ` X=V` for each object, in order of declaration
abbrev pub values_text : List (List ℕ × ℤ) → List ℤ → List ℕ
values_text [] values = []
values_text (object ∷ objects) [] = []
values_text (object ∷ objects) (value ∷ values) = value_text object.0 value ++ values_text objects values
