-- What a reply is, by the parts that answered it.
use Rattle.std.proofs.Common.{◌≡◌, ℕ, List, [], Option, Some, None, true, false, refl}
use Rattle.std.proofs.Common.{ap, subst, sym, ◌∙◌, inl, inr}
use Rattle.std.specs.Prelude.{Result, Ok, Err, IfErr}
use Rattle.std.proofs.lemmas.Bool.{cases_Bool}
use Rattle.std.proofs.lemmas.Result.{IfErr-at_err}
use Rattle.ordup_objects.specs.declared.change.Change.{Change}
use Rattle.ordup_objects.specs.declared.refusal.Refusal.{Refusal}
use Rattle.ordup_objects.specs.declared.refusal.Refusal.TheVariants.{NoMemory, Syntax}
use Rattle.ordup_primary.specs.Declarations.{Declared, start_refusal}
use Rattle.ordup_world.specs.Events.{later, Past, IsAnswer}
use Rattle.ordup_world.specs.Events.{reply as event_answer}
use Rattle.ordup_world.specs.Worlds.{WorldState, StandsFor}
use Rattle.ordup_world.specs.declared.event.Event.{Event}
use Rattle.ordup_world.specs.declared.event.Answer.{Answer}
use Rattle.ordup_world.specs.declared.event.Answer.TheVariants.{Refused}
use Rattle.ordup_grammar.specs.Actions.{Action, Propose}
use Rattle.ordup_grammar.specs.ChangeWords.{are_changes, changes_of}
use Rattle.ordup_grammar.specs.Commands.{Command, Act, Start, command_by}
use Rattle.ordup_grammar.specs.declared.keyword.Keyword.TheVariants as keyword
use Rattle.ordup_answers.specs.ScriptStates.{ScriptState, declaring, running, Declares, IsWorldOf}
use Rattle.ordup_answers.specs.Answers.{Leaves}
use Rattle.ordup_answers.specs.Changes.{set_in}
use Rattle.ordup_answers.specs.Events.{event_of, names_of}
use Rattle.ordup_answers.specs.Refusals.{Gives}
use Rattle.ordup_answers.specs.Replies.{event_reply, command_reply, reply_or_refusal, words_reply}
use Rattle.ordup_answers.specs.Texts.{answer_text, refused_text, started_text}

-- where a result is an error, what follows from what is known
pub if_err_weaker : {T E : Type 0} {P Q : E → Type 0} (r : Result T E) → ((e : E) → P e → Q e) → IfErr r P → IfErr r Q
if_err_weaker (Ok x) f p = tt
if_err_weaker (Err e) f p = f e p

module _ {A : Type 0} where
  -- what holds of the state that declares so holds of each state that does
  at_declaring : (P : ScriptState A → Type 0) (setup : Declared) → P (declaring setup) → (s : ScriptState A) → Declares setup s → P s
  at_declaring P setup here (declaring d) is = subst (λ (e : Declared). P (declaring e)) is here
  at_declaring P setup here (running d past) is = absurd is

  -- an answer that is not for want of memory is the reply
  answered : (setup : Declared) (past : Past A) (e : Event A) (answer : Answer A) → IsAnswer setup past e answer
      → (answer ≡ Refused NoMemory → ⊥)
      → answer ≡ event_answer setup past e
  answered setup past e answer (inl is) other = is
  answered setup past e answer (inr no_memory) other = absurd (other no_memory.2)

  -- what is left by an event
  pub left_by_event : (d : Declared) (w : WorldState) (past : Past A) (e : Event A) (answer : Answer A)
      → IsAnswer d past e answer → StandsFor d w (later past e answer) → (answer ≡ Refused NoMemory → ⊥)
      → (setup : Declared) (subject object : List ℕ) (Took : List ℕ → Type 0) → setup ≡ d
      → Took (answer_text setup subject object answer)
      → Leaves (IsWorldOf w) Took (event_reply d past (subject, object) e)
  left_by_event d w past e answer is state other setup subject object Took same took =
      let replied = answered d past e answer is other in (
        subst (λ given. StandsFor d w (later past e given)) replied state,
        subst (λ given. Took (answer_text d subject object given)) replied
            (subst (λ (d : Declared). Took (answer_text d subject object answer)) same took),
      )

  -- what is left by an action, by its event and the names in it
  pub left_by_action : (v w : WorldState) (a : Action) (names : List ℕ × List ℕ) (e : Event A) (Took : List ℕ → Type 0)
      → event_of v.primary.setup a ≡ Ok e → names ≡ names_of a
      → ((d : Declared) (past : Past A) → StandsFor d v past → Leaves (IsWorldOf w) Took (event_reply d past names e))
      → (s : ScriptState A) → IsWorldOf v s → Leaves (IsWorldOf w) Took (reply_or_refusal s (command_reply s (Act a)))
  left_by_action v w a names e Took is named left (declaring d) stands = absurd stands
  left_by_action v w a names e Took is named left (running d past) stands =
      let event : event_of d a ≡ Ok e = ap (λ d. event_of d a) (sym stands.store.declared) ∙ is in
      rw (event, sym named) (left d past stands)

  -- what is left by the action that words spell
  pub left_by_words : (v w : WorldState) (c : Option Command) (a : Action) (names : List ℕ × List ℕ) (e : Event A)
      (Took : List ℕ → Type 0) → c ≡ Some (Act a) → event_of v.primary.setup a ≡ Ok e → names ≡ names_of a
      → ((d : Declared) (past : Past A) → StandsFor d v past → Leaves (IsWorldOf w) Took (event_reply d past names e))
      → (s : ScriptState A) → IsWorldOf v s → Leaves (IsWorldOf w) Took (words_reply s c)
  left_by_words v w c a names e Took spelled is named left s stands =
      rw spelled (left_by_action v w a names e Took is named left s stands)

  -- what is left by an action of words that is refused
  pub left_by_refusal : (v : WorldState) (c : Option Command) (a : Action) (r : Refusal) (Took : List ℕ → Type 0)
      → c ≡ Some (Act a) → event_of {A = A} v.primary.setup a ≡ Err r → Took (refused_text r)
      → (s : ScriptState A) → IsWorldOf v s → Leaves (IsWorldOf v) Took (words_reply s c)
  left_by_refusal v c a r Took spelled is took (declaring d) stands = absurd stands
  left_by_refusal v c a r Took spelled is took (running d past) stands =
      let refused : event_of {A = A} d a ≡ Err r = ap (λ d. event_of {A = A} d a) (sym stands.store.declared) ∙ is in
      rw (spelled, refused) (stands, took)

  -- what is left by words that spell no command
  pub left_by_no_command : (IsState : ScriptState A → Type 0) (c : Option Command) (Took : List ℕ → Type 0)
      → c ≡ None → Took (refused_text Syntax)
      → (s : ScriptState A) → IsState s → Leaves IsState Took (words_reply s c)
  left_by_no_command IsState c Took none took s is = rw none (is, took)

  -- what is left by a proposal whose words give no set
  pub left_by_no_set : (v : WorldState) (words : List (List ℕ)) (r : Result (List Change) Refusal) (e : Refusal)
      (Took : List ℕ → Type 0) → r ≡ Err e → (are_changes words ≡ false → r ≡ Err Syntax)
      → (are_changes words ≡ true → Gives (set_in v.primary.setup.objects (changes_of words)) r)
      → (e ≡ NoMemory → ⊥) → Took (refused_text e)
      → (s : ScriptState A) → IsWorldOf v s → Leaves (IsWorldOf v) Took (words_reply s (command_by keyword.Propose words))
  left_by_no_set v words r e Took is syntax gives other took s stands = elim (cases_Bool (are_changes words)) [
    | inl each ↦ elim (rw is at (gives each)) [
      | inl refused ↦
          left_by_refusal v (command_by keyword.Propose words) (Propose (changes_of words)) e Took (rw each refl) (rw refused refl)
          took s stands
      | inr no_memory ↦ absurd (other no_memory)
    ]
    | inr none ↦
        let same : e ≡ Syntax = IfErr-at_err (λ e. e ≡ Syntax) (sym (syntax none) ∙ is) refl in
        left_by_no_command (IsWorldOf v) (command_by keyword.Propose words) Took (rw none refl)
        (subst (λ (e : Refusal). Took (refused_text e)) same took) s stands
  ]

  -- what is left by a start
  pub left_by_start : (d : Declared) (w : WorldState) (Took : List ℕ → Type 0)
      → (start_refusal d ≡ None) × IsWorldOf {A = A} w (running d []) → Took started_text
      → (s : ScriptState A) → Declares d s
      → Leaves (IsWorldOf w) Took (reply_or_refusal s (command_reply s Start))
  left_by_start d w Took (ready, started) took s is =
      let wanted : ScriptState A → Type 0 = λ s. Leaves (IsWorldOf w) Took (reply_or_refusal s (command_reply s Start)) in
      at_declaring wanted d (rw ready (started, took)) s is
