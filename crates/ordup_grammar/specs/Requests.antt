-- What a line asks for.
use Rattle.std.specs.Prelude.{ℕ, Bool, false, ◌&&◌, ◌==◌, List, [], ◌∷◌, Option, Some, None, nat_le, if◌then◌else◌}
use Rattle.std.specs.List.{list_all}
use Rattle.ordup_grammar.specs.Lines.{Line}
use Rattle.ordup_grammar.specs.Words.{words_of}
use Rattle.ordup_grammar.specs.SiteLines.{action_at}
use Rattle.ordup_grammar.specs.Commands as commands
use Rattle.ordup_grammar.specs.declared.script_line.ScriptLine.{ScriptLine}
use Rattle.ordup_grammar.specs.declared.script_line.ScriptLine.TheVariants as line

-- what a line asks for
pub data Request : Type 0 where
  -- nothing: it is a comment, or has no word
  Nothing : Request
  -- the command that its words spell
  Command : commands.Command → Request
  -- the line is no command: it is too long, has a byte that is not printed, or its words spell none
  NoCommand : Request

-- a byte from space to tilde
abbrev pub is_printed : ℕ → Bool
is_printed byte = nat_le 32 byte && nat_le byte 126

-- whether a line is a comment
abbrev pub is_comment : List ℕ → Bool
is_comment [] = false
is_comment (byte ∷ bytes) = byte == 35

-- what is asked for by what may be a command
abbrev pub request_by : Option commands.Command → Request
request_by None = NoCommand
request_by (Some command) = Command command

-- what words ask for: nothing, where there is none
abbrev pub request_by_words : List (List ℕ) → Request
request_by_words [] = Nothing
request_by_words (first ∷ rest) = request_by (commands.command_of first rest)

-- what a line asks for: one that is too long, or has a byte that is not printed, is no command; a comment asks for nothing
unfoldable pub request_of : Line → Request
request_of None = NoCommand
request_of (Some line) =
    if is_comment line then Nothing
    else if list_all is_printed line then request_by_words (words_of line)
    else NoCommand

-- what a line asks for, by what it is before its first word is looked at
abbrev pub asked : ScriptLine → Request
asked line.Nothing = Nothing
asked line.NoCommand = NoCommand
asked (line.Words first rest) = request_by (commands.command_of first rest)
