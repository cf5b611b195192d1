-- How a run that is explained ends.
use Rattle.std.proofs.Common.{◌≡◌, ◌∙◌, sym, ap, subst, ℕ, List, [], ◌++◌, ◌⊎◌, Option}
use Rattle.std.proofs.Common.{Some, None, IfSome, Err, inl, inr, take, drop, append_assoc, take-append-drop, refl, true}
use Rattle.std.proofs.lemmas.List.{append-nil}
use Rattle.std.proofs.KnownBytes.{Consumes-whole}
use Rattle.std.specs.Io.KnownBytes.{Appends, Consumes, IsAtEnd}
use Rattle.std.specs.Prelude.{Result, Ok}
use Rattle.ordup_grammar.specs.Lines.{Line}
use Rattle.ordup_answers.specs.Scripts.{lines_of}
use Rattle.ordup_script.specs.Answerers.{HasAnswered, HasStopped, IsLater}
use Rattle.ordup_script.specs.Explainers.{HasExplained, HasStoppedExplaining, answerer_of}
use Rattle.ordup_script.specs.Explanations.{Explains, NoteStreams, Notes, NotesFront}
use Rattle.ordup_script.specs.Readings.{Reads}
use Rattle.ordup_script.specs.Runs.{Runs}
use Rattle.ordup_script.proofs.Runs.{stopped}
use Rattle.ordup_script.specs.Streams.{Input}
use Rattle.ordup_script.specs.declared.explaining.Explainer.{Explainer}
use Rattle.ordup_script.specs.declared.line_reader.Extent.{Extent}
use Rattle.ordup_script.specs.declared.line_reader.Extent.TheVariants as extent
use Rattle.ordup_script.specs.declared.stream.ScriptFault.{ScriptFault}
use Rattle.ordup_script.specs.declared.stream.ScriptFault.TheVariants as fault

-- what is known of the lines that were taken, or of the one at which it stopped, may be less
pub reads_weaker : {F : Type 0} (input : Input) (took less : List Line → Type 0) (stopped fewer : List Line → F → Type 0)
    → ((lines : List Line) → took lines → less lines) → ((lines : List Line) (e : F) → stopped lines e → fewer lines e)
    → (r : Result Extent F) → Reads input took stopped r → Reads input less fewer r
reads_weaker input took less stopped fewer weaker ends (Ok extent.Whole) (script, read, within, end, h) =
    (script, read, within, end, weaker _ h)
reads_weaker input took less stopped fewer weaker ends (Ok extent.BeforeFailure) (script, read, within, h) =
    (script, read, within, weaker _ h)
reads_weaker input took less stopped fewer weaker ends (Ok extent.UpToLimit) (script, read, over, h) = (script, read, over, weaker _ h)
reads_weaker input took less stopped fewer weaker ends (Err e) (script, read, inl each) =
    (script, read, inl (λ rest. ends _ e (each rest)))
reads_weaker input took less stopped fewer weaker ends (Err e) (script, read, inr (end, within, h)) =
    (script, read, inr (end, within, ends _ e h))

-- what holds of what was read, whatever comes after it, holds of all that the reader had
of_front : (P : List ℕ → Type 0) (had has : Option (List ℕ)) (limit : ℕ) (script : List ℕ) → Consumes had has script
    → ((rest : List ℕ) → P (take limit script ++ rest))
    → IfSome had P
of_front P None has limit script took each = tt
of_front P (Some all) None limit script took each = absurd took
of_front P (Some all) (Some rest) limit script took each =
    let cut : take limit script ++ (drop limit script ++ rest) ≡ all =
    sym (append_assoc _ (drop limit script) rest) ∙ ap (λ t. t ++ rest) (take-append-drop limit script) ∙ sym took in
    subst P cut (each (drop limit script ++ rest))

-- the run ends so for either fault
of_fault : (A : Type 0) (s : NoteStreams) (limit : ℕ) (e : ScriptFault) → (e ≡ fault.Write) ⊎ (e ≡ fault.NoMemory)
    → IfSome s.had (λ all. NotesFront A (lines_of true all) s.old s.new)
    → Explains A s limit (Err e)
of_fault A s limit e (inl is) front = rw is front
of_fault A s limit e (inr is) front = rw is front

-- all notes are a prefix of themselves
pub noted_front : (A : Type 0) (old new had has : Option (List ℕ)) (script : List ℕ) → Consumes had has script → IsAtEnd has
    → Notes A (lines_of true script) old new
    → IfSome had (λ all. NotesFront A (lines_of true all) old new)
noted_front A old new had has script took end (text, notes, grew) =
    Consumes-whole had has script (λ all. NotesFront A (lines_of true all) old new) took end
    (lines_of true script, [], text, sym (append-nil (lines_of true script)), notes, (text, [], sym (append-nil text), grew))

module _ {W E A : Type 0} (contents : W → Option (List ℕ)) (noted : E → Option (List ℕ)) where
  -- from the first explainer to these faults
  abbrev pub over : Explainer W E A → E → Option (List ℕ) → Option (List ℕ) → NoteStreams
  over first faults had has = record { had = had; has = has; old = noted first.faults.now; new = noted faults }

  -- all that was noted was sent
  pub noted_all : (first now : Explainer W E A) (lines : List Line) → HasExplained contents noted first now lines
      → now.notes.now.text ≡ []
      → Notes A lines (noted first.faults.now) (noted now.faults.now)
  noted_all first now lines h none =
      (h.text, h.notes, subst (Appends _ _) (sym (h.kept ∙ ap (λ t. h.sent ++ t) none ∙ append-nil h.sent)) h.wrote)

  -- it stopped at a line
  pub stopped_noting : (first now : Explainer W E A) (faults : E) (had has : Option (List ℕ)) (limit : ℕ) (e : ScriptFault)
      → (now.faults.ghost_name ≡ first.faults.ghost_name → faults ≡ now.faults.now)
      → Reads (record { had = had; has = has; limit = limit }) (HasExplained contents noted first now)
      (HasStoppedExplaining contents noted first now) (Err e)
      → Explains A (over first faults had has) limit (Err e)
  stopped_noting first now faults had has limit e same (script, took, inl each) =
      subst (λ f. Explains A (over first f had has) limit (Err e)) (sym (same (each []).faults))
      (of_fault A (over first now.faults.now had has) limit e (each []).answered.cause
      (of_front (λ all. NotesFront A (lines_of true all) (noted first.faults.now) (noted now.faults.now)) had has limit script took
      (λ rest. (each rest).front)))
  stopped_noting first now faults had has limit e same (script, took, inr (end, within, h)) =
      subst (λ f. Explains A (over first f had has) limit (Err e)) (sym (same h.faults))
      (of_fault A (over first now.faults.now had has) limit e h.answered.cause
      (Consumes-whole had has script (λ all. NotesFront A (lines_of true all) (noted first.faults.now) (noted now.faults.now)) took end
      h.front))

  -- it stopped at a line, and is the same explainer, later
  pub stopped_later : (first now : Explainer W E A) (input : Input) (e : ScriptFault)
      → Reads input (HasExplained contents noted first now) (HasStoppedExplaining contents noted first now) (Err e)
      → IsLater (answerer_of first) (answerer_of now) × (now.faults.ghost_name ≡ first.faults.ghost_name)
  stopped_later first now input e (script, took, inl each) = ((each []).answered.later, (each []).faults)
  stopped_later first now input e (script, took, inr (end, within, h)) = (h.answered.later, h.faults)

  -- it stopped at a line, so the run ended
  pub stopped_run : (first now : Explainer W E A) (had has : Option (List ℕ)) (limit : ℕ) (e : ScriptFault)
      → Reads (record { had = had; has = has; limit = limit }) (HasExplained contents noted first now)
      (HasStoppedExplaining contents noted first now) (Err e)
      → Runs {A = A} (record { had = had; has = has; old = contents first.output.now; new = contents now.output.now }) limit (Err e)
  stopped_run first now had has limit e h =
      stopped contents (answerer_of first) (answerer_of now) now.output.now had has limit e (λ later. refl)
      (reads_weaker (record { had = had; has = has; limit = limit }) (HasExplained contents noted first now)
      (HasAnswered contents (answerer_of first) (answerer_of now)) (HasStoppedExplaining contents noted first now)
      (HasStopped contents (answerer_of first) (answerer_of now)) (λ lines h. h.answered) (λ lines e h. h.answered) (Err e) h)
