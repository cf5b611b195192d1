-- What is left by a line that is kept, and what stays true of lines that are.
use Rattle.std.proofs.Common.{◌≡◌, ◌∙◌, sym, subst, ℕ, List, [], Some}
use Rattle.std.specs.Prelude.{Result, Ok, Err}
use Rattle.ordup_primary.specs.Declarations.{Declared}
use Rattle.ordup_world.specs.Events.{Past}
use Rattle.ordup_world.specs.Worlds.{WorldState, StandsFor}
use Rattle.ordup_world.specs.declared.event.Event.{Event}
use Rattle.ordup_grammar.specs.Commands.{Act}
use Rattle.ordup_grammar.specs.SiteLines.{action_at}
use Rattle.ordup_answers.specs.declared.known_line.KnownLine.{KnownLine}
use Rattle.ordup_answers.specs.declared.known_lines.KnownLines.{KnownLines}
use Rattle.ordup_answers.specs.declared.script_end.ScriptEnd.{ScriptEnd}
use Rattle.ordup_answers.specs.declared.script_end.ScriptEnd.TheVariants as variant
use Rattle.ordup_answers.specs.Answers.{Leaves, Replies, StaysPut}
use Rattle.ordup_answers.specs.Events.{event_of, names_of}
use Rattle.ordup_answers.specs.KnownLines.{AreKnown, IsAnswering, Knows, StaysKnown, Tells, TellsIn, name_of}
use Rattle.ordup_answers.specs.Replies.{Reply, event_reply, words_reply}
use Rattle.ordup_answers.specs.ScriptStates.{ScriptState, declaring, running, IsWorldOf, Stands}

module _ {A : Type 0} (v w : WorldState) (line : KnownLine) (e : Event A) (Took : List ℕ → Type 0) where
  pub left_by_known : ((d : Declared) → Tells d line → event_of d (action_at line.action (name_of line)) ≡ Ok e)
      → names_of (action_at line.action (name_of line)) ≡ (name_of line, [])
      → ((d : Declared) (past : Past A) → StandsFor d v past → Leaves (IsWorldOf w) Took (event_reply d past (name_of line, []) e))
      → (s : ScriptState A) → IsWorldOf v s → TellsIn line s
      → Leaves (IsWorldOf w) Took (words_reply s (Some (Act (action_at line.action (name_of line)))))
  left_by_known event names left (declaring d) stands tells = absurd stands
  left_by_known event names left (running d past) stands tells = rw (event d tells, names) (left d past stands)

module _ {A : Type 0} where
  -- what is known in one state in which the script stands is known in each
  knows_alike : (end : ScriptEnd A) (known : KnownLines) (s t : ScriptState A) → Stands end s → Stands end t → Knows known s → Knows known t
  knows_alike (variant.Declared setup) known (declaring d) (declaring e) one other knows = knows
  knows_alike (variant.Declared setup) known (declaring d) (running e past) one other knows = absurd other
  knows_alike (variant.Declared setup) known (running d past) t one other knows = absurd one
  knows_alike (variant.Running w) known (declaring d) t one other knows = absurd one
  knows_alike (variant.Running w) known (running d past) (declaring e) one other knows = absurd other
  knows_alike (variant.Running w) known (running d past) (running e more) one other knows =
      subst (λ (x : Declared). AreKnown x known) (sym one.store.declared ∙ other.store.declared) knows

module _ {A E : Type 0} (old new : ScriptEnd A) (before after : KnownLines) (Took : List ℕ → Type 0) (reply : ScriptState A → Reply A) where
  -- after a line the script stands in some state, of which what is kept of lines is true
  pub stays_answering : (r : Result (Unit {0}) E) → IsAnswering old before
      → Replies (λ s. Stands old s × Knows before s) (λ s. Stands new s × Knows after s) Took reply r → StaysPut old new Took r
      → StaysKnown old before after
      → IsAnswering new after
  stays_answering (Ok done) (s, (stands, knows)) replies stays still =
      let left = replies s (stands, knows) in
      ((reply s).0, left.0)
  stays_answering (Err e) (s, (stands, knows)) replies stays still =
      (s, (subst (λ (x : ScriptEnd A). Stands x s) (sym stays.0) stands, still s stands knows))

  -- so the reply is that to each state in which it stood
  pub replies_alike : (r : Result (Unit {0}) E) → IsAnswering old before
      → Replies (λ s. Stands old s × Knows before s) (λ s. Stands new s × Knows after s) Took reply r
      → Replies (Stands old) (Stands new) Took reply r
  replies_alike (Ok done) (t, (there, knows)) replies = λ s stands.
      let left = replies s (stands, knows_alike old before t s there stands knows) in
      (left.0.0, left.1)
  replies_alike (Err e) is replies = tt
