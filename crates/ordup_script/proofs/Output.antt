-- What is written for a script, as its lines go on.
use Rattle.std.proofs.Common.{◌≡◌, ◌∙◌, refl, ap, sym, ℕ, List, [], ◌∷◌, ◌++◌, Option, append_assoc}
use Rattle.std.proofs.lemmas.List.{append-nil}
use Rattle.ordup_grammar.specs.Lines.{Line}
use Rattle.ordup_answers.specs.Replies.{reply}
use Rattle.ordup_text.specs.Fronts.{AppendsFront}
use Rattle.ordup_answers.specs.Output.{Written, answered, written}
use Rattle.ordup_answers.specs.Scripts.{after_lines}

-- lines after others
pub after_lines-append : {S : Type 0} (step : S → Line → S) (s : S) (lines more : List Line)
    → after_lines step s (lines ++ more) ≡ after_lines step (after_lines step s lines) more
after_lines-append step s [] more = refl
after_lines-append step s (line ∷ lines) more = after_lines-append step (step s line) lines more

-- what was written stays in front
text_grows : {A : Type 0} (w : Written A) (lines : List Line) → (more : List ℕ) × ((after_lines answered w lines).1 ≡ w.1 ++ more)
text_grows w [] = ([], sym (append-nil w.1))
text_grows w (line ∷ lines) =
    let (more, is) = text_grows (answered w line) lines in
    let added : List ℕ = (reply w.0 line).1 in
    (added ++ more, is ∙ append_assoc w.1 added more)

-- a prefix of the answers to some lines is one of the answers to more
pub front_of_more : (A : Type 0) (old new : Option (List ℕ)) (lines more : List Line) → AppendsFront old new (written A lines).1
    → AppendsFront old new (written A (lines ++ more)).1
front_of_more A old new lines more (front, back, is, grew) =
    let (added, grows) = text_grows (written A lines) more in
    let all : (written A (lines ++ more)).1 ≡ (written A lines).1 ++ added =
    ap (λ (w : Written A). w.1) (after_lines-append answered _ lines more) ∙ grows in
    (front, back ++ added, all ∙ ap (λ t. t ++ added) is ∙ append_assoc front back added, grew)
