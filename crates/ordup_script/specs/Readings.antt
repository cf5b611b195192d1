-- What reading the lines of a script leaves.
use Rattle.std.specs.Prelude.{◌⊎◌, ℕ, true, false, List, ◌++◌}
use Rattle.std.specs.Prelude.{◌<◌, ◌≤◌, length, take, Result, Ok, Err}
use Rattle.std.specs.Io.KnownBytes.{Consumes, IsAtEnd}
use Rattle.ordup_grammar.specs.Lines.{Line}
use Rattle.ordup_grammar.specs.LineBuffers.{Holds}
use Rattle.ordup_script.specs.declared.line_reader.Extent.{Extent}
use Rattle.ordup_script.specs.declared.line_reader.Extent.TheVariants as extent
use Rattle.ordup_answers.specs.Scripts.{IsCut, lines_of}
use Rattle.ordup_script.specs.Streams.{Input}

-- the lines of a script that ended were taken, and the part of one that did not is held
pub record IsRead (took : List Line → Type 0) (held : Line) (script : List ℕ) : Type 0 where
  pub lines : List Line
  pub part : List ℕ
  pub cut : IsCut script lines part
  pub taken : took lines
  pub holds : Holds held part

-- what a taker took, and at what it stopped, since it was as it first was
module _ {T F : Type 0} (took : T → T → List Line → Type 0) (stopped : T → T → List Line → F → Type 0) where
  -- these lines were taken; or it stopped at one of them, whatever comes after them
  abbrev pub TookOr : T → T → List Line → Result (Unit {0}) F → Type 0
  TookOr first now lines (Ok done) = took first now lines
  TookOr first now lines (Err e) = (later : List Line) → stopped first now (lines ++ later) e

  -- after whatever was taken before, these lines were taken
  pub record Takes (before after : T) (lines : List Line) (r : Result (Unit {0}) F) : Type 0 where
    pub goes_on : (first : T) (earlier : List Line) → took first before earlier → TookOr first after (earlier ++ lines) r

  -- so much of a script was read; or it stopped at a line of it, whatever comes after it
  abbrev pub IsReadOr : T → T → Line → List ℕ → Result (Unit {0}) F → Type 0
  IsReadOr first now held script (Ok done) = IsRead (took first now) held script
  IsReadOr first now held script (Err e) = (rest : List ℕ) → stopped first now (lines_of true (script ++ rest)) e

  -- after whatever was read before, this piece of a script was read
  pub record ReadsOn (before : T) (held : Line) (after : T) (holds : Line) (piece : List ℕ) (r : Result (Unit {0}) F) : Type 0 where
    pub goes_on : (first : T) (script : List ℕ) → IsRead (took first before) held script
        → IsReadOr first after holds (script ++ piece) r

  -- all lines of a script were taken; or it stopped at one of them
  abbrev pub TookAllOr : T → T → List ℕ → Result (Unit {0}) F → Type 0
  TookAllOr first now script (Ok done) = took first now (lines_of true script)
  TookAllOr first now script (Err e) = stopped first now (lines_of true script) e

  -- after whatever was read before, the script ended here
  pub record EndsIn (before : T) (held : Line) (after : T) (r : Result (Unit {0}) F) : Type 0 where
    pub ends : (first : T) (script : List ℕ) → IsRead (took first before) held script → TookAllOr first after script r

-- what was read of a script, and which of its lines were taken: all of them where all was read; before a failed read, and of
-- too long a script, those that a line feed ended, within the limit;
-- or it stopped at a line within the limit, whatever comes after, or at the end
abbrev pub Reads : {F : Type 0} → Input → (List Line → Type 0) → (List Line → F → Type 0) → Result Extent F → Type 0
Reads input took stopped (Ok extent.Whole) =
    (script : List ℕ)
    × Consumes input.had input.has script
    × (length script ≤ input.limit)
    × IsAtEnd input.has
    × took (lines_of true script)
Reads input took stopped (Ok extent.BeforeFailure) =
    (script : List ℕ) × Consumes input.had input.has script × (length script ≤ input.limit) × took (lines_of false script)
Reads input took stopped (Ok extent.UpToLimit) =
    (script : List ℕ)
    × Consumes input.had input.has script
    × (input.limit < length script)
    × took (lines_of false (take input.limit script))
Reads input took stopped (Err e) =
    (script : List ℕ)
    × Consumes input.had input.has script
    × (((rest : List ℕ) → stopped (lines_of true (take input.limit script ++ rest)) e)
    ⊎ (IsAtEnd input.has × (length script ≤ input.limit) × stopped (lines_of true script) e))
