-- Lists of events and their answers, one more at the end.
use Rattle.std.proofs.Common.{◌≡◌, List, [], ◌∷◌, ◌++◌, length, refl, sym, arith, ◌∙◌}
use Rattle.std.proofs.lemmas.List.{append-nil}
use Rattle.ordup_primary.specs.Declarations.{Declared}
use Rattle.ordup_world.specs.Events.{Past, later, IsAnswer, AreAnswers, past_after}
use Rattle.ordup_world.specs.Along.{Along}
use Rattle.ordup_world.specs.declared.event.Event.{Event}
use Rattle.ordup_world.specs.declared.event.Answer.{Answer}

-- where nothing is left, all was yielded
pub all_yielded : {X : Type 0} (yielded left all : List X) → length left ≡ 0 → yielded ++ left ≡ all → yielded ≡ all
all_yielded yielded [] all none e = sym (append-nil yielded) ∙ e
all_yielded yielded (x ∷ left) all none e = absurd (omega arith)

module _ {A : Type 0} where
  -- one event more is answered after those before it, and what holds along them and after it holds along all
  pub push : (setup : Declared) (past : Past A) (events : List (Event A)) (answers : List (Answer A)) (e : Event A) (a : Answer A)
      → AreAnswers setup past events answers → IsAnswer setup (past_after past events answers) e a
      → (past_after past (events ++ e ∷ []) (answers ++ a ∷ []) ≡ later (past_after past events answers) e a)
      × AreAnswers setup past (events ++ e ∷ []) (answers ++ a ∷ [])
      × ((Holds : Past A → Type 0) → Along Holds past events answers → Holds (later (past_after past events answers) e a)
      → Along Holds past (events ++ e ∷ []) (answers ++ a ∷ []))
  push setup past [] [] e a are is = (refl, (is, tt), λ Holds along now. (along, now))
  push setup past [] (b ∷ answers) e a are is = absurd are
  push setup past (f ∷ events) [] e a are is = absurd are
  push setup past (f ∷ events) (b ∷ answers) e a are is =
      let rest = push setup (later past f b) events answers e a are.1 is in
      (rest.0, (are.0, rest.1), λ Holds along now. (along.0, rest.2 Holds along.1 now))
