-- How far a script is run that is explained.
use Rattle.std.specs.Prelude.{◌≡◌, List, ◌++◌, Option, ℕ}
use Rattle.std.specs.Io.KnownBytes.{Appends}
use Rattle.ordup_grammar.specs.Lines.{Line}
use Rattle.ordup_answers.specs.Output.{written}
use Rattle.ordup_script.specs.Answerers.{HasAnswered, HasStopped}
use Rattle.ordup_script.specs.Explanations.{AreNotes, NotesFront, refusing}
use Rattle.ordup_script.specs.declared.explaining.Explainer.{Explainer}
use Rattle.ordup_script.specs.declared.stream.Answerer.{Answerer}
use Rattle.ordup_script.specs.declared.stream.ScriptFault.{ScriptFault}

-- what answers the lines in it
abbrev pub answerer_of : {W E A : Type 0} → Explainer W E A → Answerer W A
answerer_of e = record { script = e.script; answers = e.answers; output = e.output }

module _ {W E A : Type 0} (contents : W → Option (List ℕ)) (noted : E → Option (List ℕ)) where
  -- these lines of a script, its first, were answered and explained: of the notes some were sent, and the others are kept
  pub record HasExplained (first now : Explainer W E A) (lines : List Line) : Type 0 where
    pub answered : HasAnswered contents (answerer_of first) (answerer_of now) lines
    pub faults : now.faults.ghost_name ≡ first.faults.ghost_name
    pub state : (refusing A lines).state ≡ (written A lines).0
    pub count : now.tally.now.lines ≡ (refusing A lines).lines
    pub refused : now.tally.now.is_refused ≡ (refusing A lines).is_refused
    pub text : List ℕ
    pub notes : AreNotes (refusing A lines).refused text
    pub sent : List ℕ
    pub wrote : Appends (noted first.faults.now) (noted now.faults.now) sent
    pub kept : text ≡ sent ++ now.notes.now.text

  -- it stopped for this fault, and what the notes were written on grew by a prefix of those for the first of these lines
  pub record HasStoppedExplaining (first now : Explainer W E A) (lines : List Line) (e : ScriptFault) : Type 0 where
    pub answered : HasStopped contents (answerer_of first) (answerer_of now) lines e
    pub faults : now.faults.ghost_name ≡ first.faults.ghost_name
    pub front : NotesFront A lines (noted first.faults.now) (noted now.faults.now)
