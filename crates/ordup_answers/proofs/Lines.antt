-- Laws of the lines of a script.
use Rattle.std.proofs.Common.{◌≡◌, ◌∙◌, sym, refl, ap, ℕ, ◌<◌, Bool, true, false, cond}
use Rattle.std.proofs.Common.{List, [], ◌∷◌, ◌++◌, length, append_assoc, arith, eqb}
use Rattle.std.specs.List.{onto_first, slice_split}
use Rattle.std.proofs.lemmas.List.{append-nil}
use Rattle.std.proofs.lemmas.List.Splits.{slice_split_at, slice_split_none}
use Rattle.std.proofs.lemmas.Bool.Decides.{nat_tests}
use Rattle.ordup_grammar.specs.Lines.{IsPart, Line, cut, is_line_feed}
use Rattle.ordup_answers.specs.Scripts.{IsCut, lines_of}

-- ---- the parts between line feeds

onto_some : (x : ℕ) (parts : List (List ℕ)) → (part : List ℕ) × (more : List (List ℕ)) × (onto_first x parts ≡ part ∷ more)
onto_some x [] = (x ∷ [], [], refl)
onto_some x (part ∷ parts) = (x ∷ part, parts, refl)

-- there is a first part, in any bytes
some_part : (xs : List ℕ) → (part : List ℕ) × (more : List (List ℕ)) × (slice_split is_line_feed xs ≡ part ∷ more)
some_part [] = ([], [], refl)
some_part (x ∷ xs) = elim (eqb x 10) as (λ b. (part : List ℕ) × (more : List (List ℕ))
    × (cond b ([] ∷ slice_split is_line_feed xs) (onto_first x (slice_split is_line_feed xs)) ≡ part ∷ more)) [
      | true ↦ ([], slice_split is_line_feed xs, refl)
      | false ↦ onto_some x (slice_split is_line_feed xs)
    ]

-- ---- the lines of a script

-- a line feed ends the line
line_ends : (counts : Bool) (part rest : List ℕ) → IsPart part
    → lines_of counts (part ++ 10 ∷ rest) ≡ cut part ∷ lines_of counts rest
unfolding lines_of
line_ends counts part rest unended =
    let (first, more, is) = some_part rest in
    rw (slice_split_at is_line_feed part 10 rest unended refl, is) refl

-- a part of a line is no line that ended
ended-none : (part : List ℕ) → IsPart part → lines_of false (part ++ []) ≡ []
unfolding lines_of
ended-none part unended = rw (append-nil part, slice_split_none is_line_feed part unended) refl

not_zero : (n : ℕ) → 0 < n → eqb n 0 ≡ false
not_zero n some = grind (arith, nat_tests)

-- a part of a line that has a byte is the last line, where the script ends with it
last_line-some : (part : List ℕ) → IsPart part → 0 < length part → lines_of true (part ++ []) ≡ cut part ∷ []
unfolding lines_of
last_line-some part unended some = rw (append-nil part, slice_split_none is_line_feed part unended, not_zero (length part) some) refl

no_lines : (counts : Bool) → lines_of counts ([] ++ []) ≡ []
unfolding lines_of
no_lines true = refl
no_lines false = refl

-- ---- where a script is cut

-- a part joins what did not end
pub joins : {script : List ℕ} {lines : List Line} {part : List ℕ} (more : List ℕ) → IsCut script lines part
    → IsCut (script ++ more) lines (part ++ more)
joins {script = script} {lines = lines} {part = part} more at = record {
  same = λ counts rest.
      ap (lines_of counts) (append_assoc script more rest)
      ∙ at.same counts (more ++ rest)
      ∙ ap (λ t. lines ++ lines_of counts t) (sym (append_assoc part more rest));
}

-- a line feed ends the line
pub ends : {script : List ℕ} {lines : List Line} {part : List ℕ} → IsCut script lines part → IsPart part
    → IsCut (script ++ 10 ∷ []) (lines ++ cut part ∷ []) []
ends {script = script} {lines = lines} {part = part} at unended = record {
  same = λ counts rest.
      ap (lines_of counts) (append_assoc script (10 ∷ []) rest)
      ∙ at.same counts (10 ∷ rest)
      ∙ ap (λ t. lines ++ t) (line_ends counts part rest unended)
      ∙ sym (append_assoc lines (cut part ∷ []) (lines_of counts rest));
}

-- the lines that ended
pub lines-ended : {script : List ℕ} {lines : List Line} {part : List ℕ} → IsCut script lines part → IsPart part
    → lines_of false (script ++ []) ≡ lines
lines-ended {lines = lines} {part = part} at unended =
    at.same false [] ∙ ap (λ t. lines ++ t) (ended-none part unended) ∙ append-nil lines

-- at the end of a script nothing is left
pub last-none : {script : List ℕ} {lines : List Line} → IsCut script lines [] → lines_of true script ≡ lines
last-none {script = script} {lines = lines} at =
    ap (lines_of true) (sym (append-nil script)) ∙ at.same true [] ∙ ap (λ t. lines ++ t) (no_lines true) ∙ append-nil lines

-- or a last line, as if a line feed ended it
pub last-line : {script : List ℕ} {lines : List Line} {part : List ℕ} (counts : Bool) → IsCut script lines part → IsPart part
    → 0 < length part
    → lines_of counts ((script ++ 10 ∷ []) ++ []) ≡ lines_of true script
last-line {script = script} {lines = lines} {part = part} counts at unended some =
    (ends at unended).same counts []
    ∙ ap (λ t. (lines ++ cut part ∷ []) ++ t) (no_lines counts)
    ∙ append-nil (lines ++ cut part ∷ [])
    ∙ ap (λ t. lines ++ t) (sym (last_line-some part unended some)) ∙ sym (at.same true []) ∙ ap (lines_of true) (append-nil script)
