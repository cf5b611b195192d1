-- Commands, and how the words of a line spell them.
use Rattle.std.specs.Prelude.{ℕ, List, Option, Some, None, option_map, length, ◌==◌, if◌then◌else◌}
use Rattle.ordup_grammar.specs.Actions.{Action, action_by}
use Rattle.ordup_grammar.specs.Declarations.{declaration_of}
use Rattle.ordup_grammar.specs.Keywords.{keyword_of}
use Rattle.ordup_grammar.specs.Words.{only_word}
use Rattle.ordup_grammar.specs.declared.declaration.Declaration.{Declaration}
use Rattle.ordup_grammar.specs.declared.keyword.Keyword.{Keyword}
use Rattle.ordup_grammar.specs.declared.keyword.Keyword.TheVariants as keyword

-- a command of a script
pub data Command : Type 0 where
  -- a declaration, before the start
  Declare : Declaration → Command
  -- `start`: the declarations are complete
  Start : Command
  -- `certify S`: the rounds of the site S are shown to be the fewest
  Certify : List ℕ → Command
  -- what happens after the start
  Act : Action → Command

-- the command that the words after a keyword spell
abbrev pub command_by : Keyword → List (List ℕ) → Option Command
command_by keyword.Start rest = if length rest == 0 then Some Start else None
command_by keyword.Certify rest = option_map (λ s. Certify s) (only_word rest)
command_by word rest = option_map (λ a. Act a) (action_by word rest)

-- the command of a first word that may be a keyword: else it is a declaration
abbrev pub command_from : Option Keyword → List ℕ → List (List ℕ) → Option Command
command_from (Some word) first rest = command_by word rest
command_from None first rest = option_map (λ d. Declare d) (declaration_of first rest)

-- the command that a first word and the words after it spell
abbrev pub command_of : List ℕ → List (List ℕ) → Option Command
command_of first rest = command_from (keyword_of first) first rest
