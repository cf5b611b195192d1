-- What a session answers and gives.
use Rattle.std.specs.Prelude.{◌≡◌, ℕ, ◌≤◌, true, List, [], ◌++◌, drop, length, take}
use Rattle.std.specs.declared.alloc.Global.{Global}
use Rattle.ordup_grammar.specs.Lines.{Line}
use Rattle.ordup_answers.specs.ScriptStates.{ScriptState, Stands, first_state}
use Rattle.ordup_answers.specs.Output.{Written, answered}
use Rattle.ordup_answers.specs.Scripts.{after_lines, lines_of}
use Rattle.ordup_c.specs.declared.session.Session.{Session}

-- the answers that were not given yet
abbrev pub kept : Session → List ℕ
kept v = drop v.given v.answers.text

-- it is before the first line, and keeps nothing
abbrev pub Begins : Session → Type 0
Begins v = Stands v.script first_state × (kept v ≡ [])

-- the state after lines, and the answers to them
abbrev pub answers_to : {A : Type 0} → ScriptState A → List Line → Written A
answers_to s lines = after_lines answered (s, []) lines

-- these lines were answered, and the answers stand behind those before
abbrev pub Follows : Session → Session → List Line → Type 0
Follows old new lines = (s : ScriptState Global) → Stands old.script s
    → Stands new.script (answers_to s lines).0 × (new.answers.text ≡ old.answers.text ++ (answers_to s lines).1)

-- no line was taken
abbrev pub Stays : Session → Session → Type 0
Stays old new = (new.script ≡ old.script) × (new.answers.text ≡ old.answers.text)

-- so many bytes of a text are whole lines: they can be taken first, and the rest of the text after them
abbrev pub AreWholeLines : ℕ → List ℕ → Type 0
AreWholeLines taken text =
    (taken ≤ length text) × (lines_of true text ≡ lines_of true (take taken text) ++ lines_of true (drop taken text))

-- so many bytes of a text were taken, which are whole lines, and these were answered
abbrev pub TakesWholeLines : Session → Session → List ℕ → ℕ → Type 0
TakesWholeLines old new text taken = AreWholeLines taken text × Follows old new (lines_of true (take taken text))

-- the lines of a text were answered, and the answers are kept behind those that were
abbrev pub Answers : Session → Session → List ℕ → Type 0
Answers old new text = (s : ScriptState Global) → Stands old.script s
    → Stands new.script (answers_to s (lines_of true text)).0
    × (kept new ≡ kept old ++ (answers_to s (lines_of true text)).1)

-- a prefix of what was kept was given, and no line was taken
abbrev pub Gives : Session → Session → List ℕ → Type 0
Gives old new gave = (new.script ≡ old.script) × (kept old ≡ gave ++ kept new)

-- the lines of a text were answered; what was given are the next of the answers, and the others are kept
abbrev pub Runs : Session → Session → List ℕ → List ℕ → Type 0
Runs old new text gave = (s : ScriptState Global) → Stands old.script s
    → Stands new.script (answers_to s (lines_of true text)).0
    × (kept old ++ (answers_to s (lines_of true text)).1 ≡ gave ++ kept new)
