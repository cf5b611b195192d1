-- What the calls on a site leave and answer.
use Rattle.std.specs.Prelude.{◌≡◌, ◌⊎◌, ℕ, ℤ, Bool, ◌&&◌, List, ◌++◌, drop, length, map, nat_le, nat_lt, if◌then◌else◌}
use Rattle.std.specs.List.{list_all}
use Rattle.ordup_objects.specs.Serial.{serial}
use Rattle.ordup_objects.specs.States.{value_at}
use Rattle.ordup_feed.specs.Parcels.{history_of}
use Rattle.ordup_holds.specs.Cells.{CellState, TakesNext}
use Rattle.ordup_shapes.specs.Changes.{greatest_object}
use Rattle.ordup_shapes.specs.declared.told.Seen.{Seen}
use Rattle.ordup_shared.specs.declared.open_site.OpenSite.{OpenSite}
use Rattle.ordup_shared.specs.Things.{MatchBool}
use Rattle.ordup_shared.specs.declared.status.TheConstants.{DONE, MORE, NOTHING, BEHIND, UNKNOWN_OBJECT}

-- a site applied the next update of its feed, whose number is told; or there was none, and nothing changed
abbrev pub Applies : OpenSite → OpenSite → ℕ → ℕ → ℕ → Type 0
Applies s t old_number new_number status =
    ((status ≡ DONE) × TakesNext s.cell t.cell new_number × (t ≡ record s { cell = t.cell }))
    ⊎ ((status ≡ NOTHING) × (t ≡ s) × (new_number ≡ old_number))

-- how many updates a site took and applied
abbrev pub applied_of : CellState → ℕ
applied_of c = length c.end.taken

-- the value of an object after them: that of the serial result of the updates that the site took
abbrev pub value_of : CellState → ℕ → ℤ
value_of c object = value_at (serial (history_of c.end.start c.end.taken) (applied_of c)) object

-- the site holds a value of such an object
abbrev pub has_object : CellState → ℕ → Bool
has_object c object = nat_le object greatest_object && nat_lt object (length c.site.values)

-- whether a site applied as many updates as the reader has seen, as a status
abbrev pub level_status : CellState → ℕ → ℕ
level_status c seen = if nat_lt (applied_of c) seen then BEHIND else DONE

-- a value, and after how many updates it is that; or there is no such object
abbrev pub Reads : OpenSite → ℕ → ℕ → Seen → Seen → ℕ → Type 0
Reads s object seen old new status =
    MatchBool (has_object s.cell object)
    ((status ≡ level_status s.cell seen) × (new ≡ record { value = value_of s.cell object; applied = applied_of s.cell }))
    ((status ≡ UNKNOWN_OBJECT) × (new ≡ old))

-- values written, and after how many updates they are these
pub record ManyValues : Type 0 where
  pub values : List ℤ
  pub applied : ℕ

-- The values of several objects, all after the same updates. Where an object is not there, or there is no room for the values,
-- nothing is written.
abbrev pub ReadsMany : CellState → List ℕ → ℕ → ManyValues → ManyValues → ℕ → Type 0
ReadsMany c objects seen old new status =
    MatchBool (list_all (has_object c) objects)
    (MatchBool (nat_lt (length old.values) (length objects))
    ((status ≡ MORE) × (new ≡ old))
    ((status ≡ level_status c seen)
    × (new ≡ record { values = map (value_of c) objects ++ drop (length objects) old.values; applied = applied_of c })))
    ((status ≡ UNKNOWN_OBJECT) × (new ≡ old))
