-- Which steps may follow which in an entry.
use Rattle.std.specs.Prelude.{ℕ, Bool, true, false, ◌&&◌, ◌-◌, List, [], ◌∷◌, nat_le}
use Rattle.ordup_entries.specs.Steps.{is_step}
use Rattle.ordup_entries.specs.declared.order.Part.{Part}
use Rattle.ordup_entries.specs.declared.order.Part.TheVariants.{Start, Beginning, Wishing, Running, Answering}
use Rattle.ordup_entries.specs.declared.step.Step.{Step}
use Rattle.ordup_entries.specs.declared.step.Step.TheVariants.{
  Begin,
  Declare,
  Known,
  Tell,
  Ask,
  Settle,
  Wish,
  Want,
  Leave,
  Gone,
  Relimit,
  Elapsed,
  Answered,
}

abbrev pub is_start : Part → Bool
is_start Start = true
is_start Beginning = false
is_start Wishing = false
is_start Running = false
is_start Answering = false

abbrev pub is_beginning : Part → Bool
is_beginning Start = false
is_beginning Beginning = true
is_beginning Wishing = false
is_beginning Running = false
is_beginning Answering = false

abbrev pub is_wishing : Part → Bool
is_wishing Start = false
is_wishing Beginning = false
is_wishing Wishing = true
is_wishing Running = false
is_wishing Answering = false

abbrev pub is_before_answers : Part → Bool
is_before_answers Start = true
is_before_answers Beginning = true
is_before_answers Wishing = true
is_before_answers Running = true
is_before_answers Answering = false

-- whether a step may stand in a part: a beginning is the first, what is declared or wanted follows it, and behind an answer come answers
abbrev pub may_stand : Part → Step → Bool
may_stand part (Begin s) = is_start part
may_stand part (Declare line) = is_beginning part
may_stand part (Want line) = is_wishing part
may_stand part (Answered client number digest answer) = true
may_stand part (Known client number digest epoch age answer) = is_before_answers part
may_stand part (Tell site count) = is_before_answers part
may_stand part (Ask client number changes) = is_before_answers part
may_stand part (Settle count) = is_before_answers part
may_stand part (Wish s) = is_before_answers part
may_stand part (Leave site) = is_before_answers part
may_stand part (Gone site count) = is_before_answers part
may_stand part (Relimit site scope amount answer) = is_before_answers part
may_stand part (Elapsed seconds) = is_before_answers part

-- the part behind a step
abbrev pub part_behind : Step → Part
part_behind (Begin s) = Beginning
part_behind (Declare line) = Beginning
part_behind (Wish s) = Wishing
part_behind (Want line) = Wishing
part_behind (Answered client number digest answer) = Answering
part_behind (Known client number digest epoch age answer) = Running
part_behind (Tell site count) = Running
part_behind (Ask client number changes) = Running
part_behind (Settle count) = Running
part_behind (Leave site) = Running
part_behind (Gone site count) = Running
part_behind (Relimit site scope amount answer) = Running
part_behind (Elapsed seconds) = Running

-- how much of the room of an entry a step takes
abbrev pub counted : Step → ℕ
counted (Tell site count) = count
counted (Gone site count) = count
counted (Settle count) = count
counted (Begin s) = 0
counted (Declare line) = 0
counted (Wish s) = 0
counted (Want line) = 0
counted (Answered client number digest answer) = 0
counted (Known client number digest epoch age answer) = 0
counted (Ask client number changes) = 0
counted (Leave site) = 0
counted (Relimit site scope amount answer) = 0
counted (Elapsed seconds) = 0

-- whether a step may be next, where there is so much room
abbrev pub may_be_next : Part → ℕ → Step → Bool
may_be_next part room step = may_stand part step && nat_le (counted step) room

-- whether steps are of the form, and follow each other so
abbrev pub are_steps : Part → ℕ → List Step → Bool
are_steps part room [] = true
are_steps part room (step ∷ steps) =
    is_step step && (may_be_next part room step && are_steps (part_behind step) (room - counted step) steps)
