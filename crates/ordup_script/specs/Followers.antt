-- How far a follower of lines has come.
use Rattle.std.specs.Prelude.{List}
use Rattle.ordup_answers.specs.ScriptStates.{Stands}
use Rattle.ordup_grammar.specs.Lines.{Line}
use Rattle.ordup_script.specs.declared.following.Follower.{Follower}
use Rattle.ordup_answers.specs.Output.{written}

-- the script stands where these lines, its first, lead
abbrev pub HasFollowed : {A : Type 0} → Follower A → List Line → Type 0
HasFollowed {A} now lines = Stands now.script (written A lines).0
