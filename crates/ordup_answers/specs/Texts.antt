-- The text of answers.
use Rattle.std.specs.Prelude.{ℕ, ℤ, List, [], ◌∷◌, ◌++◌, codes, slice_index_or}
use Rattle.std.specs.Fmt.{decimal, signed_decimal}
use Rattle.ordup_objects.specs.declared.refusal.Refusal.{Refusal}
use Rattle.ordup_objects.specs.Refusals.{refusal_number, refusal_name}
use Rattle.ordup_rounds.specs.declared.window.Window.{Window}
use Rattle.ordup_primary.specs.Declarations.{Declared}
use Rattle.ordup_primary.specs.declared.settled.Settled.{Settled}
use Rattle.ordup_primary.specs.declared.settled.Settled.TheVariants.{Acked, Round, Waiting}
use Rattle.ordup_query.specs.declared.answer.ReadAnswer.{ReadAnswer}
use Rattle.ordup_query.specs.declared.answer.QueryAnswer.{QueryAnswer}
use Rattle.ordup_grammar.specs.declared.script_line.SiteAction.{SiteAction}
use Rattle.ordup_grammar.specs.declared.script_line.SiteAction.TheVariants as action
use Rattle.ordup_text.specs.Lines.{named_text, done_text, numbered_text, values_text}
use Rattle.ordup_world.specs.declared.event.Answer.{Answer}
use Rattle.ordup_world.specs.declared.event.Answer.TheVariants.{Proposed, Sent, Applied, Reported, Settlement, Relimited, Begun}
use Rattle.ordup_world.specs.declared.event.Answer.TheVariants.{ReadOut, Ended, Abandoned, Shown, Refused}

-- `refused N NAME`
abbrev pub refused_text : Refusal → List ℕ
refused_text r = codes "refused " ++ decimal (refusal_number r) ++ 32 ∷ [] ++ refusal_name r ++ 10 ∷ []

-- `ok start`
abbrev pub started_text : List ℕ
started_text = codes "ok start" ++ 10 ∷ []

-- the numbers that a shown site has
pub record ShownNumbers : Type 0 where
  pub sent : ℕ
  pub applied : ℕ
  pub reported : ℕ
  pub rounds : ℕ

-- `ok show S sent A applied B reported C rounds N X=V ..`
abbrev pub shown_text : List ℕ → ShownNumbers → List (List ℕ × ℤ) → List ℤ → List ℕ
shown_text site n objects values =
    codes "ok show " ++ site ++ codes " sent " ++ decimal n.sent ++ codes " applied " ++ decimal n.applied
    ++ codes " reported " ++ decimal n.reported ++ codes " rounds " ++ decimal n.rounds ++ values_text objects values ++ 10 ∷ []

-- ` S` for each of these sites
abbrev pub sites_text : List (List ℕ × ℕ) → List ℕ → List ℕ
sites_text table [] = []
sites_text table (s ∷ sites) = 32 ∷ [] ++ (slice_index_or table s ([], 0)).0 ++ sites_text table sites

-- what was done, a number, and sites
abbrev pub listed_text : List ℕ → ℕ → List (List ℕ × ℕ) → List ℕ → List ℕ
listed_text done number table sites = done ++ decimal number ++ sites_text table sites ++ 10 ∷ []

-- the text of what came of a settlement
abbrev pub settled_text : List (List ℕ × ℕ) → Settled → List ℕ
settled_text table (Acked k) = done_text (codes "ok acked ") k
settled_text table (Round k sites) = listed_text (codes "ok round ") k table sites
settled_text table (Waiting k sites) = listed_text (codes "ok waiting ") k table sites

-- `ok read Q X value V import I total T`
abbrev pub read_text : List ℕ → List ℕ → ReadAnswer → List ℕ
read_text query object a =
    codes "ok read " ++ query ++ 32 ∷ [] ++ object ++ codes " value " ++ signed_decimal a.value
    ++ codes " import " ++ decimal a.import ++ codes " total " ++ decimal a.total ++ 10 ∷ []

-- `ok end Q place P sum V total T reads N`
abbrev pub ended_text : List ℕ → QueryAnswer → List ℕ
ended_text query a =
    codes "ok end " ++ query ++ codes " place " ++ decimal a.place ++ codes " sum " ++ signed_decimal a.sum
    ++ codes " total " ++ decimal a.total ++ codes " reads " ++ decimal a.reads ++ 10 ∷ []

-- the text of an answer to an action at a site of this name, with a place
abbrev pub placed_text : SiteAction → List ℕ → ℕ → List ℕ
placed_text action.Send name place = numbered_text (codes "ok sent ") name place
placed_text action.Apply name place = numbered_text (codes "ok applied ") name place
placed_text action.Report name place = numbered_text (codes "ok reported ") name place

-- the text of an answer to an event that names this subject, a site or a query, and this object
abbrev pub answer_text : {A : Type 0} → Declared → List ℕ → List ℕ → Answer A → List ℕ
answer_text setup subject object (Proposed number) = done_text (codes "ok proposed ") number
answer_text setup subject object (Sent s number) = numbered_text (codes "ok sent ") subject number
answer_text setup subject object (Applied s number) = numbered_text (codes "ok applied ") subject number
answer_text setup subject object (Reported s place) = numbered_text (codes "ok reported ") subject place
answer_text setup subject object (Settlement settled) = settled_text setup.sites settled
answer_text setup subject object (Relimited s place) = numbered_text (codes "ok relimit ") subject place
answer_text setup subject object (Begun query place) = numbered_text (codes "ok begun ") query place
answer_text setup subject object (ReadOut answer) = read_text subject object answer
answer_text setup subject object (Ended answer) = ended_text subject answer
answer_text setup subject object (Abandoned query) = named_text (codes "ok abandoned ") query
answer_text setup subject object (Shown sent applied reported rounds values) =
    shown_text subject (record { sent = sent; applied = applied; reported = reported; rounds = rounds }) setup.objects values
answer_text setup subject object (Refused r) = refused_text r

-- ` A-B`
abbrev pub window_text : Window → List ℕ
window_text w = 32 ∷ [] ++ decimal w.from ++ 45 ∷ [] ++ decimal w.to

-- ` A-B` for each of these windows
abbrev pub windows_text : List Window → List ℕ
windows_text [] = []
windows_text (w ∷ windows) = window_text w ++ windows_text windows

-- `ok certified S N A-B ..`
abbrev pub certified_text : List ℕ → ℕ → List Window → List ℕ
certified_text site rounds windows = codes "ok certified " ++ site ++ 32 ∷ [] ++ decimal rounds ++ windows_text windows ++ 10 ∷ []
