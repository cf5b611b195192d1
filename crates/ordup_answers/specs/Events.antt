-- The events that the actions of a script stand for.
use Rattle.std.specs.Prelude.{ℕ, List, [], Option, Result, Ok, Err, if◌then◌else◌, option_map}
use Rattle.ordup_objects.specs.Names.{is_name}
use Rattle.ordup_objects.specs.declared.refusal.Refusal.{Refusal}
use Rattle.ordup_objects.specs.declared.refusal.Refusal.TheVariants.{BadName, UnknownQuery}
use Rattle.ordup_primary.specs.Declarations.{Declared}
use Rattle.ordup_world.specs.declared.event.Event.{Event}
use Rattle.ordup_world.specs.declared.event.Event.TheVariants as event
use Rattle.ordup_grammar.specs.Numbers.{amount_of}
use Rattle.ordup_grammar.specs.Actions.{
  Action,
  Propose,
  Send,
  Apply,
  Report,
  Settle,
  Begin,
  Read,
  End,
  Abandon,
  Show,
  Relimit,
}
use Rattle.ordup_grammar.specs.Commands.{Act, Command}
use Rattle.ordup_grammar.specs.SiteLines.{action_at}
use Rattle.ordup_grammar.specs.Words.{only_word}
use Rattle.ordup_grammar.specs.declared.script_line.SiteAction.{SiteAction}
use Rattle.ordup_answers.specs.Changes.{set_in}
use Rattle.ordup_answers.specs.Names.{index_among, scope_in}
use Rattle.ordup_answers.specs.Refusals.{made_of}

-- what the words after the keyword of an action at a site ask for
abbrev pub asked_at : SiteAction → List (List ℕ) → Option Command
asked_at action words = option_map (λ a. Act a) (option_map (λ site. action_at action site) (only_word words))

-- the name of a query: none is open by what is no name
abbrev pub query_name : List ℕ → Result (List ℕ) Refusal
query_name q = if is_name q then Ok q else Err UnknownQuery

module _ {A : Type 0} where
  -- the event that an action stands for, or why there is none
  abbrev pub event_of : Declared → Action → Result (Event A) Refusal
  event_of d (Propose changes) = made_of (λ set. event.Propose set) (set_in d.objects changes)
  event_of d (Send s) = Ok (event.Send (index_among d.sites s))
  event_of d (Apply s) = Ok (event.Apply (index_among d.sites s))
  event_of d (Report s) = Ok (event.Report (index_among d.sites s))
  event_of d Settle = Ok event.Settle
  event_of d (Begin q s limit) =
      if is_name q then Ok (event.Begin q (index_among d.sites s) (amount_of limit)) else Err BadName
  event_of d (Read q x) = Ok (event.Read q (index_among d.objects x))
  event_of d (End q) = made_of (λ name. event.End name) (query_name q)
  event_of d (Abandon q) = made_of (λ name. event.Abandon name) (query_name q)
  event_of d (Show s) = Ok (event.Show (index_among d.sites s))
  event_of d (Relimit s what number) = Ok (event.Relimit (index_among d.sites s) (scope_in d what) (amount_of number))

-- the names in an action that its answer may tell: of a site or a query, and of an object
abbrev pub names_of : Action → List ℕ × List ℕ
names_of (Propose changes) = ([], [])
names_of (Send s) = (s, [])
names_of (Apply s) = (s, [])
names_of (Report s) = (s, [])
names_of Settle = ([], [])
names_of (Begin q s limit) = (q, [])
names_of (Read q x) = (q, x)
names_of (End q) = (q, [])
names_of (Abandon q) = (q, [])
names_of (Show s) = (s, [])
names_of (Relimit s what number) = (s, [])
