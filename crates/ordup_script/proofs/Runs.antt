-- How a run ends.
use Rattle.std.proofs.Common.{◌≡◌, ◌∙◌, sym, ap, subst, ℕ, List, [], ◌++◌, ◌⊎◌, Option}
use Rattle.std.proofs.Common.{Some, None, IfSome, Err, inl, inr, take, drop, append_assoc, take-append-drop}
use Rattle.std.proofs.lemmas.List.{append-nil}
use Rattle.std.proofs.KnownBytes.{Consumes-whole}
use Rattle.std.specs.Io.KnownBytes.{Appends, Consumes, IsAtEnd}
use Rattle.ordup_grammar.specs.Lines.{Line}
use Rattle.ordup_script.specs.Answerers.{HasAnswered, HasStopped, IsLater}
use Rattle.ordup_answers.specs.Output.{out, written}
use Rattle.ordup_script.specs.Readings.{Reads}
use Rattle.ordup_text.specs.Fronts.{AppendsFront}
use Rattle.ordup_script.specs.Runs.{Runs}
use Rattle.ordup_script.specs.Streams.{Streams}
use Rattle.ordup_script.specs.declared.stream.Answerer.{Answerer}
use Rattle.ordup_script.specs.declared.stream.ScriptFault.{ScriptFault}
use Rattle.ordup_script.specs.declared.stream.ScriptFault.TheVariants as fault

-- a prefix of the answers to the lines of what was read, whatever comes after it, is one of the answers to all that the reader had
told_front : (A : Type 0) (had has old new : Option (List ℕ)) (limit : ℕ) (script : List ℕ) → Consumes had has script
    → ((rest : List ℕ) → AppendsFront old new (out A (take limit script ++ rest)))
    → IfSome had (λ all. AppendsFront old new (out A all))
told_front A None has old new limit script took each = tt
told_front A (Some all) None old new limit script took each = absurd took
told_front A (Some all) (Some rest) old new limit script took each =
    let cut : take limit script ++ (drop limit script ++ rest) ≡ all =
    sym (append_assoc _ (drop limit script) rest) ∙ ap (λ t. t ++ rest) (take-append-drop limit script) ∙ sym took in
    subst (λ t. AppendsFront old new (out A t)) cut (each (drop limit script ++ rest))

-- the same at the reader's end
told_end : (A : Type 0) (had has old new : Option (List ℕ)) (script : List ℕ) → Consumes had has script → IsAtEnd has
    → AppendsFront old new (out A script)
    → IfSome had (λ all. AppendsFront old new (out A all))
told_end A had has old new script took end front = Consumes-whole had has script (λ all. AppendsFront old new (out A all)) took end front

-- all answers are a prefix of themselves
pub told_all : (A : Type 0) (had has old new : Option (List ℕ)) (script : List ℕ) → Consumes had has script → IsAtEnd has
    → Appends old new (out A script)
    → IfSome had (λ all. AppendsFront old new (out A all))
told_all A had has old new script took end grew =
    told_end A had has old new script took end (out A script, [], sym (append-nil (out A script)), grew)

-- the run ends so for either fault
of_fault : (A : Type 0) (s : Streams) (limit : ℕ) (e : ScriptFault) → (e ≡ fault.Write) ⊎ (e ≡ fault.NoMemory)
    → IfSome s.had (λ all. AppendsFront s.old s.new (out A all))
    → Runs {A = A} s limit (Err e)
of_fault A s limit e (inl is) front = rw is front
of_fault A s limit e (inr is) front = rw is front

module _ {W A : Type 0} (contents : W → Option (List ℕ)) where
  -- from the first answerer to this writer
  abbrev over : Answerer W A → W → Option (List ℕ) → Option (List ℕ) → Streams
  over first output had has = record { had = had; has = has; old = contents first.output.now; new = contents output }

  -- all that the lines gave was sent
  pub sent_all : (first now : Answerer W A) (lines : List Line) → HasAnswered contents first now lines → now.answers.now.text ≡ []
      → Appends (contents first.output.now) (contents now.output.now) (written A lines).1
  sent_all first now lines h none = subst (Appends _ _) (sym (h.text ∙ ap (λ t. h.sent ++ t) none ∙ append-nil h.sent)) h.wrote

  -- it stopped at a line
  pub stopped : (first now : Answerer W A) (output : W) (had has : Option (List ℕ)) (limit : ℕ) (e : ScriptFault)
      → (IsLater first now → output ≡ now.output.now)
      → Reads (record { had = had; has = has; limit = limit }) (HasAnswered contents first now) (HasStopped contents first now) (Err e)
      → Runs {A = A} (over first output had has) limit (Err e)
  stopped first now output had has limit e same (script, took, inl each) =
      subst (λ o. Runs {A = A} (over first o had has) limit (Err e)) (sym (same (each []).later))
      (of_fault A (over first now.output.now had has) limit e (each []).cause
      (told_front A had has _ _ limit script took (λ rest. (each rest).front)))
  stopped first now output had has limit e same (script, took, inr (end, within, h)) =
      subst (λ o. Runs {A = A} (over first o had has) limit (Err e)) (sym (same h.later))
      (of_fault A (over first now.output.now had has) limit e h.cause (told_end A had has _ _ script took end h.front))
