-- What is kept after each event of a list.
use Rattle.std.specs.Prelude.{◌≡◌, ℕ, ◌+◌, ◌<◌, ◌≤◌, true, List, [], ◌∷◌, length}
use Rattle.ordup_rounds.specs.Fewest.{AreFewest}
use Rattle.ordup_primary.specs.Declarations.{Declared, capacity_of}
use Rattle.ordup_primary.specs.Settling.{report_at}
use Rattle.ordup_world.specs.Events.{Past, sets_of, sent, applied, reported, is_within_after, is_lag_within_after, decisions}
use Rattle.ordup_world.specs.Events.{rounds, windows, later}
use Rattle.ordup_world.specs.declared.event.Event.{Event}
use Rattle.ordup_world.specs.declared.event.Answer.{Answer}

module _ {A : Type 0} where
  -- it holds of the past, and of the past after each of these events with these answers
  abbrev pub Along : (Past A → Type 0) → Past A → List (Event A) → List (Answer A) → Type 0
  Along Holds past [] answers = Holds past
  Along Holds past (e ∷ events) [] = Holds past
  Along Holds past (e ∷ events) (a ∷ answers) = Holds past × Along Holds (later past e a) events answers

  -- a site has applied what it reported, and no more than was sent to it; its feed holds no more than it may;
  -- and the acknowledged updates that it has not applied weigh at most each of its limits that are in force now
  pub record KeepsSite (setup : Declared) (past : Past A) (s : ℕ) : Type 0 where
    pub feed : sent s past ≤ applied s past + capacity_of setup s
    pub limits : is_lag_within_after setup past s (applied s past) ≡ true
    pub reported : reported s past ≤ applied s past
    pub applied : applied s past ≤ sent s past
    pub sent : sent s past ≤ length (sets_of past)

  -- each site does
  abbrev pub KeepSites : Declared → Past A → Type 0
  KeepSites setup past = (s : ℕ) → s < length setup.sites → KeepsSite setup past s

  -- the rounds of each site are the fewest of any schedule that keeps its limits, as its windows show
  abbrev pub HaveFewest : Declared → Past A → Type 0
  HaveFewest setup past =
      (s : ℕ) → s < length setup.sites →
      AreFewest (is_within_after setup past s) (report_at ((decisions setup past).reports s)) (decisions setup past).decided
      (rounds setup s past) (windows setup s past)
