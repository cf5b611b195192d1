-- What is kept of lines that came before.
use Rattle.std.specs.Prelude.{◌≡◌, ℕ, List, take, IfSome}
use Rattle.std.specs.List.{All}
use Rattle.ordup_primary.specs.Declarations.{Declared}
use Rattle.ordup_grammar.specs.Commands.{Act, Command}
use Rattle.ordup_grammar.specs.Lines.{cut}
use Rattle.ordup_grammar.specs.Requests.{Command as Asks, request_of}
use Rattle.ordup_grammar.specs.SiteLines.{action_at}
use Rattle.ordup_answers.specs.declared.known_line.KnownLine.{KnownLine}
use Rattle.ordup_answers.specs.declared.known_lines.KnownLines.{KnownLines}
use Rattle.ordup_answers.specs.Names.{index_among}
use Rattle.ordup_answers.specs.declared.script_end.ScriptEnd.{ScriptEnd}
use Rattle.ordup_answers.specs.ScriptStates.{ScriptState, Stands, declaring, running}

-- the line
abbrev pub line_of : KnownLine → List ℕ
line_of k = take k.len k.bytes

-- the name of its site
abbrev pub name_of : KnownLine → List ℕ
name_of k = take k.name_len k.name

-- the command that it asks for
abbrev pub command_at : KnownLine → Command
command_at k = Act (action_at k.action (name_of k))

-- what is kept of a line is true of it, where this is declared
pub record Tells (d : Declared) (k : KnownLine) : Type 0 where
  pub asks : request_of (cut (line_of k)) ≡ Asks (command_at k)
  pub site : index_among d.sites (name_of k) ≡ k.site

-- what is kept of each line is true of it
abbrev pub AreKnown : Declared → KnownLines → Type 0
AreKnown d known = All (λ line. IfSome line (Tells d)) known.lines

-- the same in a state of a script: before the start nothing is kept that depends on what is declared
abbrev pub Knows : {A : Type 0} → KnownLines → ScriptState A → Type 0
Knows known (declaring d) = (e : Declared) → AreKnown e known
Knows known (running d past) = AreKnown d known

-- what is kept of a line is true of it in a state of a script
abbrev pub TellsIn : {A : Type 0} → KnownLine → ScriptState A → Type 0
TellsIn line (declaring d) = Tells d line
TellsIn line (running d past) = Tells d line

module _ {A : Type 0} where
  -- the script is in this state, of which what is kept of a line is true
  abbrev pub StandsTelling : ScriptEnd A → KnownLine → ScriptState A → Type 0
  StandsTelling end line s = Stands end s × TellsIn line s

  -- the script is in this state, of which what is kept of lines is true
  abbrev pub StandsKnowing : ScriptEnd A → KnownLines → ScriptState A → Type 0
  StandsKnowing end known s = Stands end s × Knows known s

  -- what is kept of lines is still true in each state in which the script stands
  abbrev pub StaysKnown : ScriptEnd A → KnownLines → KnownLines → Type 0
  StaysKnown end before after = (s : ScriptState A) → Stands end s → Knows before s → Knows after s

  -- it is so in some state
  abbrev pub IsAnswering : ScriptEnd A → KnownLines → Type 0
  IsAnswering end known = (s : ScriptState A) × StandsKnowing end known s
