-- Words behind others.
use Rattle.std.specs.Prelude.{ℕ, List, [], ◌∷◌, ◌++◌}

-- ` W` for each of these words
abbrev pub spread : List (List ℕ) → List ℕ
spread [] = []
spread (word ∷ words) = 32 ∷ word ++ spread words
