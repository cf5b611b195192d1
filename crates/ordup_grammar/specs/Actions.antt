-- Actions: what happens after the start, and how the words of a line spell it.
use Rattle.std.specs.Prelude.{ℕ, ℤ, List, [], ◌∷◌, Option, Some, None, option_map, option_and_then, length, ◌==◌, if◌then◌else◌}
use Rattle.ordup_grammar.specs.Words.{only_word, two_words, name_and_number}
use Rattle.ordup_grammar.specs.ChangeWords.{are_changes, changes_of}
use Rattle.ordup_grammar.specs.Declarations.{limit_of}
use Rattle.ordup_grammar.specs.Keywords.{keyword_of}
use Rattle.ordup_grammar.specs.declared.change_words.ChangeWord.{ChangeWord}
use Rattle.ordup_grammar.specs.declared.declaration.ScopeWord.{ScopeWord}
use Rattle.ordup_grammar.specs.declared.keyword.Keyword.{Keyword}
use Rattle.ordup_grammar.specs.declared.keyword.Keyword.TheVariants as keyword

-- an action. Each name in it is a word, and may name nothing
pub data Action : Type 0 where
  -- `propose C..`: an update that makes the changes C
  Propose : List ChangeWord → Action
  -- `send S`: the next update for the site S is sent
  Send : List ℕ → Action
  -- `apply S`: the site S applies the next update that was sent to it
  Apply : List ℕ → Action
  -- `report S`: the site S reports how many updates it applied
  Report : List ℕ → Action
  -- `settle`: the head is settled
  Settle : Action
  -- `begin Q S LIMIT`: a query of the name Q begins at the site S, with this import limit
  Begin : List ℕ → List ℕ → ℤ → Action
  -- `read Q X`: the query Q reads the object X
  Read : List ℕ → List ℕ → Action
  -- `end Q`: the query Q ends
  End : List ℕ → Action
  -- `abandon Q`: the query Q is given up
  Abandon : List ℕ → Action
  -- `show S`: the values at the site S
  Show : List ℕ → Action
  -- `relimit S .. N`: the site S has a limit of N on what is named, from the place after the last acknowledged one on
  Relimit : List ℕ → ScopeWord → ℤ → Action

-- the proposal that words spell, where each spells a change
abbrev pub proposal_of : List (List ℕ) → Option Action
proposal_of words = if are_changes words then Some (Propose (changes_of words)) else None

-- the begin that words spell: a query, a site and a limit
abbrev pub begin_of : List (List ℕ) → Option Action
begin_of (q ∷ rest) = option_map (λ (s, n). Begin q s n) (name_and_number rest)
begin_of [] = None

-- the action that the words after a keyword spell
abbrev pub action_by : Keyword → List (List ℕ) → Option Action
action_by keyword.Propose rest = proposal_of rest
action_by keyword.Send rest = option_map (λ s. Send s) (only_word rest)
action_by keyword.Apply rest = option_map (λ s. Apply s) (only_word rest)
action_by keyword.Report rest = option_map (λ s. Report s) (only_word rest)
action_by keyword.Settle rest = if length rest == 0 then Some Settle else None
action_by keyword.Begin rest = begin_of rest
action_by keyword.Read rest = option_map (λ (q, x). Read q x) (two_words rest)
action_by keyword.End rest = option_map (λ q. End q) (only_word rest)
action_by keyword.Abandon rest = option_map (λ q. Abandon q) (only_word rest)
action_by keyword.Show rest = option_map (λ s. Show s) (only_word rest)
action_by keyword.Relimit rest = option_map (λ (s, what, n). Relimit s what n) (limit_of rest)
action_by keyword.Start rest = None
action_by keyword.Certify rest = None

-- the action that a first word and the words after it spell
abbrev pub action_of : List ℕ → List (List ℕ) → Option Action
action_of first rest = option_and_then (λ word. action_by word rest) (keyword_of first)
