-- What is written for a script, line by line.
use Rattle.std.specs.Prelude.{ℕ, true, false, List, [], ◌++◌}
use Rattle.ordup_grammar.specs.Lines.{Line}
use Rattle.ordup_answers.specs.Scripts.{after_lines, lines_of}
use Rattle.ordup_answers.specs.ScriptStates.{ScriptState, first_state}
use Rattle.ordup_answers.specs.Replies.{reply}

-- the state, and all that was written
abbrev pub Written : Type 0 → Type 0
Written A = ScriptState A × List ℕ

-- one line more is answered
abbrev pub answered : {A : Type 0} → Written A → Line → Written A
answered (s, text) line = ((reply s line).0, text ++ (reply s line).1)

-- before the first line
abbrev pub unwritten : {A : Type 0} → Written A
unwritten = (first_state, [])

-- after these lines of a script, its first
abbrev pub written : (A : Type 0) → List Line → Written A
written A lines = let first : Written A = unwritten in after_lines answered first lines

-- all that is written for a script
abbrev pub out : (A : Type 0) → List ℕ → List ℕ
out A script = (written A (lines_of true script)).1

-- all that is written for the lines that a line feed ended
abbrev pub out_of_ended : (A : Type 0) → List ℕ → List ℕ
out_of_ended A script = (written A (lines_of false script)).1

-- the state at the end of a script
abbrev pub state_after : (A : Type 0) → List ℕ → ScriptState A
state_after A script = (written A (lines_of true script)).0
