-- How far an answerer of lines has come.
use Rattle.std.specs.Prelude.{◌≡◌, ◌⊎◌, ℕ, List, ◌++◌, Option}
use Rattle.std.specs.Io.KnownBytes.{Appends}
use Rattle.ordup_answers.specs.ScriptStates.{Stands}
use Rattle.ordup_grammar.specs.Lines.{Line}
use Rattle.ordup_script.specs.declared.stream.Answerer.{Answerer}
use Rattle.ordup_script.specs.declared.stream.ScriptFault.{ScriptFault}
use Rattle.ordup_script.specs.declared.stream.ScriptFault.TheVariants as fault
use Rattle.ordup_text.specs.Fronts.{AppendsFront}
use Rattle.ordup_answers.specs.Output.{written}

-- one answerer is the other, later: its references are the same
pub record IsLater {W A : Type 0} (first now : Answerer W A) : Type 0 where
  pub script : now.script.ghost_name ≡ first.script.ghost_name
  pub output : now.output.ghost_name ≡ first.output.ghost_name

-- what a writer holds
module _ {W A : Type 0} (contents : W → Option (List ℕ)) where
  -- these lines of a script, its first, were answered: of the answers some were sent, and the others are kept
  pub record HasAnswered (first now : Answerer W A) (lines : List Line) : Type 0 where
    pub later : IsLater first now
    pub script : Stands now.script.now (written A lines).0
    pub sent : List ℕ
    pub wrote : Appends (contents first.output.now) (contents now.output.now) sent
    pub text : (written A lines).1 ≡ sent ++ now.answers.now.text

  -- it stopped for this fault, and the writer grew by a prefix of the answers to these lines of a script, its first
  pub record HasStopped (first now : Answerer W A) (lines : List Line) (e : ScriptFault) : Type 0 where
    pub later : IsLater first now
    pub cause : (e ≡ fault.Write) ⊎ (e ≡ fault.NoMemory)
    pub front : AppendsFront (contents first.output.now) (contents now.output.now) (written A lines).1
