-- The lines of a script, and what a state becomes line by line.
use Rattle.std.specs.Prelude.{◌≡◌, ℕ, Bool, ◌&&◌, ◌==◌, not, List, [], ◌∷◌, ◌++◌, length, if◌then◌else◌}
use Rattle.std.specs.List.{slice_split}
use Rattle.ordup_grammar.specs.Lines.{Line, cut, is_line_feed}

-- the lines among the parts between line feeds: the last part is a line only where it counts and has a byte
abbrev pub lines_among : Bool → List (List ℕ) → List Line
lines_among counts [] = []
lines_among counts (part ∷ []) = if counts && not (length part == 0) then cut part ∷ [] else []
lines_among counts (part ∷ next ∷ more) = cut part ∷ lines_among counts (next ∷ more)

-- the lines of a script; without the last one where no line feed ends it, if that does not count
unfoldable pub lines_of : Bool → List ℕ → List Line
lines_of counts script = lines_among counts (slice_split is_line_feed script)

-- the state after these lines, each of which takes one step
abbrev pub after_lines : {S : Type 0} → (S → Line → S) → S → List Line → S
after_lines step s [] = s
after_lines step s (line ∷ lines) = after_lines step (step s line) lines

-- these lines of a script ended, and this part of one did not
pub record IsCut (script : List ℕ) (lines : List Line) (part : List ℕ) : Type 0 where
  pub same : (counts : Bool) (rest : List ℕ) → lines_of counts (script ++ rest) ≡ lines ++ lines_of counts (part ++ rest)
