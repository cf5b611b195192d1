-- What is noted of the lines of a script that are refused.
use Rattle.std.specs.Prelude.{◌≡◌, ℕ, Bool, true, false, ◌||◌, ◌==◌, ◌+◌, ◌-◌, ◌<◌, ◌≤◌, length, take}
use Rattle.std.specs.Prelude.{List, [], ◌∷◌, ◌++◌, codes, if◌then◌else◌, IfSome, Result, Ok, Err}
use Rattle.std.specs.Fmt.{decimal}
use Rattle.std.specs.Io.KnownBytes.{Appends, Consumes}
use Rattle.ordup_text.specs.Fronts.{AppendsFront}
use Rattle.ordup_grammar.specs.Lines.{Line}
use Rattle.ordup_answers.specs.Replies.{reply}
use Rattle.ordup_answers.specs.ScriptStates.{ScriptState, first_state}
use Rattle.ordup_answers.specs.Scripts.{after_lines, lines_of}
use Rattle.ordup_script.specs.Streams.{Bytes}
use Rattle.ordup_script.specs.declared.stream.ScriptFault.{ScriptFault}
use Rattle.ordup_script.specs.declared.stream.ScriptFault.TheVariants as fault

-- whether an answer is a refusal: it begins with `r`, as `refused`, where others begin with `ok`
abbrev pub is_refusal : List ℕ → Bool
is_refusal [] = false
is_refusal (byte ∷ bytes) = byte == 114

-- the refused line of this number and this answer, if it is refused
abbrev pub refused_at : ℕ → List ℕ → List (ℕ × List ℕ)
refused_at number answer = if is_refusal answer then (number, answer) ∷ [] else []

-- the state after some lines of a script, how many they are, whether one of them was refused, and the number and the answer of each
-- that was, in order
pub record Refusing (A : Type 0) : Type 0 where
  pub state : ScriptState A
  pub lines : ℕ
  pub is_refused : Bool
  pub refused : List (ℕ × List ℕ)

-- the same after one line more, which has this answer and leaves this state
abbrev pub one_more : {A : Type 0} → Refusing A → ScriptState A × List ℕ → Refusing A
one_more r given = record {
  state = given.0;
  lines = r.lines + 1;
  is_refused = r.is_refused || is_refusal given.1;
  refused = r.refused ++ refused_at (r.lines + 1) given.1;
}

-- the same after one line more
abbrev pub refusing_more : {A : Type 0} → Refusing A → Line → Refusing A
refusing_more r line = one_more r (reply r.state line)

-- before the first line
abbrev pub none_refused : {A : Type 0} → Refusing A
none_refused = record { state = first_state; lines = 0; is_refused = false; refused = [] }

-- after these lines of a script, its first
abbrev pub refusing : (A : Type 0) → List Line → Refusing A
refusing A lines = let first : Refusing A = none_refused in after_lines refusing_more first lines

-- `line N: refused M NAME: REASON`
abbrev pub note_text : ℕ → List ℕ → List ℕ → List ℕ
note_text number answer reason =
    codes "line " ++ decimal number ++ codes ": " ++ take (length answer - 1) answer ++ codes ": " ++ reason ++ 10 ∷ []

-- the text is a note for each of these lines, in order, each with some reason
abbrev pub AreNotes : List (ℕ × List ℕ) → List ℕ → Type 0
AreNotes [] text = text ≡ []
AreNotes (line ∷ lines) text =
    (reason : List ℕ) × (rest : List ℕ) × (text ≡ note_text line.0 line.1 reason ++ rest) × AreNotes lines rest

-- what the notes were written on grew by those for these lines of a script
abbrev pub Notes : (A : Type 0) → List Line → Bytes → Bytes → Type 0
Notes A lines old new = (text : List ℕ) × AreNotes (refusing A lines).refused text × Appends old new text

-- it grew by a prefix of the notes for the first of these lines
abbrev pub NotesFront : (A : Type 0) → List Line → Bytes → Bytes → Type 0
NotesFront A lines old new =
    (noted : List Line) × (others : List Line) × (text : List ℕ)
    × (lines ≡ noted ++ others)
    × AreNotes (refusing A noted).refused text
    × AppendsFront old new text

-- what a reader had before and has after, and what the notes were written on held before and holds after
pub record NoteStreams : Type 0 where
  pub had : Bytes
  pub has : Bytes
  pub old : Bytes
  pub new : Bytes

-- whether a line of what was read was refused, and the notes for its lines: all of them; before a failed read, and of too long a
-- script, those for the lines that a line feed ended; and else a prefix of those for the first lines
abbrev pub Explains : (A : Type 0) → NoteStreams → ℕ → Result Bool ScriptFault → Type 0
Explains A s limit (Ok refused) =
    (script : List ℕ)
    × Consumes s.had s.has script
    × (refused ≡ (refusing A (lines_of true script)).is_refused)
    × Notes A (lines_of true script) s.old s.new
Explains A s limit (Err fault.Read) = (script : List ℕ) × Consumes s.had s.has script × Notes A (lines_of false script) s.old s.new
Explains A s limit (Err fault.TooLong) =
    (script : List ℕ) × Consumes s.had s.has script × Notes A (lines_of false (take limit script)) s.old s.new
Explains A s limit (Err fault.Write) = IfSome s.had (λ script. NotesFront A (lines_of true script) s.old s.new)
Explains A s limit (Err fault.NoMemory) = IfSome s.had (λ script. NotesFront A (lines_of true script) s.old s.new)

-- how a run ended, without whether a line was refused
abbrev pub ended_so : {F : Type 0} → Result Bool F → Result (Unit {0}) F
ended_so (Ok refused) = Ok tt
ended_so (Err e) = Err e

-- how a run ended that tells whether a line was refused: with the end of the script, or with a fault
abbrev pub end_in : {T F : Type 0} → Result (T × Bool) F → Result T F
end_in (Ok ended) = Ok ended.0
end_in (Err e) = Err e

-- whether a line was refused, by the end of the run
abbrev pub refused_in : {T F : Type 0} → Result (T × Bool) F → Result Bool F
refused_in (Ok ended) = Ok ended.1
refused_in (Err e) = Err e
