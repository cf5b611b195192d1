-- What is read of a text within a limit.
use Rattle.std.specs.Prelude.{◌⊎◌, ℕ, ◌<◌, ◌≤◌, List, [], ◌∷◌, ◌++◌, length, nat_le, take, if◌then◌else◌}
use Rattle.csv.specs.Reading.{strip_bom}
use Rattle.ordup_rows.specs.Texts.{IsMalformedAt}

-- what stands here for a byte that never comes: no byte is this number
abbrev pub never : ℕ
never = 256

-- A text of at most n bytes comes whole. Of a longer one come n bytes, and then the reading fails.
abbrev pub cut_at : ℕ → List ℕ → List ℕ
cut_at n text = if nat_le (length text) n then text else take n text ++ never ∷ []

-- Row n is the first of the text that breaks a rule, or the one after the last where rows are missing. Of a text over the limit it
-- is so however the text goes on after the limit.
abbrev pub IsMalformedWithin : ℕ → List ℕ → ℕ → Type 0
IsMalformedWithin limit text n =
    ((length text ≤ limit) × IsMalformedAt (strip_bom text) n)
    ⊎ ((limit < length text) × ((rest : List ℕ) → IsMalformedAt (strip_bom (take limit text ++ rest)) n))
