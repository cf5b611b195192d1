-- Texts that are added part by part.
use Rattle.std.proofs.Common.{◌≡◌, List, [], ◌∷◌, ◌++◌, ℕ, ℤ, append_assoc, codes, subst, sym}
use Rattle.std.specs.Fmt.{decimal, signed_decimal}
use Rattle.ordup_rounds.specs.declared.window.Window.{Window}
use Rattle.ordup_query.specs.declared.answer.ReadAnswer.{ReadAnswer}
use Rattle.ordup_query.specs.declared.answer.QueryAnswer.{QueryAnswer}
use Rattle.ordup_text.specs.Lines.{values_text}
use Rattle.ordup_objects.specs.declared.refusal.Refusal.TheVariants.{NoMemory}
use Rattle.ordup_primary.specs.Declarations.{Declared}
use Rattle.ordup_world.specs.declared.event.Answer.{Answer}
use Rattle.ordup_world.specs.declared.event.Answer.TheVariants.{Refused}
use Rattle.ordup_answers.specs.Texts.{ShownNumbers, shown_text, read_text, ended_text, windows_text, certified_text, answer_text}

pub read_parts : (old query object : List ℕ) (a : ReadAnswer)
    → ((((((((((old ++ codes "ok read ") ++ query) ++ 32 ∷ []) ++ object) ++ codes " value ") ++ signed_decimal a.value)
    ++ codes " import ") ++ decimal a.import) ++ codes " total ") ++ decimal a.total) ++ 10 ∷ []
    ≡ old ++ read_text query object a
read_parts old query object a = simp append_assoc

pub ended_parts : (old query : List ℕ) (a : QueryAnswer)
    → ((((((old ++ codes "ok end ") ++ query) ++ (codes " place " ++ decimal a.place)) ++ (codes " sum " ++ signed_decimal a.sum))
    ++ (codes " total " ++ decimal a.total)) ++ (codes " reads " ++ decimal a.reads)) ++ 10 ∷ []
    ≡ old ++ ended_text query a
ended_parts old query a = simp append_assoc

pub shown_parts : (old site : List ℕ) (n : ShownNumbers) (objects : List (List ℕ × ℤ)) (values : List ℤ)
    → (((((((old ++ codes "ok show ") ++ site) ++ (codes " sent " ++ decimal n.sent)) ++ (codes " applied " ++ decimal n.applied))
    ++ (codes " reported " ++ decimal n.reported)) ++ (codes " rounds " ++ decimal n.rounds)) ++ values_text objects values) ++ 10 ∷ []
    ≡ old ++ shown_text site n objects values
shown_parts old site n objects values = simp append_assoc

pub certified_parts : (old site : List ℕ) (rounds : ℕ) (windows : List Window)
    → (((((old ++ codes "ok certified ") ++ site) ++ 32 ∷ []) ++ decimal rounds) ++ windows_text windows) ++ 10 ∷ []
    ≡ old ++ certified_text site rounds windows
certified_parts old site rounds windows = simp append_assoc

abbrev pub IsRefused : {A : Type 0} → Answer A → Type 0
IsRefused (Refused r) = Unit {0}
IsRefused _ = ⊥

-- what adds the text of an answer that is no refusal
pub adds_answer : {A : Type 0} (setup : Declared) (subject object old new : List ℕ) (answer same : Answer A) → answer ≡ same
    → (IsRefused same → ⊥) → new ≡ old ++ answer_text setup subject object same
    → (answer ≡ Refused NoMemory → ⊥) × (new ≡ old ++ answer_text setup subject object answer)
adds_answer setup subject object old new answer same is none text =
    rw is ((λ refused. none (subst IsRefused (sym refused) tt)), text)
