-- Notes of refused lines, one after another.
use Rattle.std.proofs.Common.{◌≡◌, ◌∙◌, refl, sym, ap, ℕ, true, List, [], ◌∷◌, ◌++◌, append_assoc}
use Rattle.std.proofs.lemmas.List.{append-nil}
use Rattle.ordup_script.specs.Explanations.{AreNotes, is_refusal, note_text, refused_at}

-- notes after others
pub notes_more : (lines more : List (ℕ × List ℕ)) (text t : List ℕ) → AreNotes lines text → AreNotes more t
    → AreNotes (lines ++ more) (text ++ t)
notes_more [] more text t none notes = rw none notes
notes_more (line ∷ lines) more text t (reason, rest, is, notes) others =
    (reason, rest ++ t, ap (λ a. a ++ t) is ∙ append_assoc (note_text line.0 line.1 reason) rest t, notes_more lines more rest t notes others)

-- the note of one refused line
pub note_of : (number : ℕ) (answer reason : List ℕ) → is_refusal answer ≡ true
    → AreNotes (refused_at number answer) (note_text number answer reason)
note_of number answer reason is = rw is (reason, [], sym (append-nil (note_text number answer reason)), refl)
