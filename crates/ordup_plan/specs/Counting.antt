-- What answers to proposals are counted as, and how the counts of callers are added up.
use Rattle.std.specs.Prelude.{ℕ, ◌+◌, Result, Ok, Err, Option, Some, None, List, [], ◌∷◌, option_map}
use Rattle.ordup_objects.specs.declared.refusal.Refusal.{Refusal}
use Rattle.ordup_objects.specs.declared.refusal.Refusal.TheVariants.{NotYet, NoMemory, Stopped}
use Rattle.ordup_plan.specs.declared.tally.Tally.{Tally}

-- What the counts of a caller are after an answer, if it goes on: an update that is numbered and not acknowledged counts as
-- pending, and any other refusal as refused. It does not go on once there was no memory, or the cluster was stopped.
abbrev pub counted_by : Tally → Result ℕ Refusal → Option Tally
counted_by t (Ok number) = Some t
counted_by t (Err (NotYet number)) = Some (record t { pending = t.pending + 1 })
counted_by t (Err NoMemory) = None
counted_by t (Err Stopped) = None
counted_by t (Err e) = Some (record t { refused = t.refused + 1 })

-- the counts of two callers together
abbrev pub plus : Tally → Tally → Tally
plus t u = record { refused = t.refused + u.refused; pending = t.pending + u.pending }

-- the counts of all callers together, if each of them has some
abbrev pub total : List (Option Tally) → Option Tally
total [] = Some (record { refused = 0; pending = 0 })
total (None ∷ tallies) = None
total (Some t ∷ tallies) = option_map (plus t) (total tallies)

-- how many proposals are counted
abbrev pub counted : Tally → ℕ
counted t = t.refused + t.pending

-- how many proposals a caller counts, none where it has no counts
abbrev pub count_of : Option Tally → ℕ
count_of None = 0
count_of (Some t) = counted t
