-- What the fields of a log keep.
use Rattle.std.specs.Prelude.{◌≡◌, ◌≤◌, ◌<◌, ◌+◌, ◌*◌, ◌/◌, ℕ, suc, length, vec_len, slice_index_or}
use Rattle.ordup_objects.specs.Sizes.{most_updates}
use Rattle.ordup_objects.specs.Weights.{object_span}
use Rattle.ordup_objects.specs.Marks.{AreMarks}
use Rattle.ordup_objects.specs.Serial.{History, serial, IsLegalHistory}
use Rattle.ordup_log.specs.Moving.{moves_below}
use Rattle.ordup_log.specs.Rows.{updates_a_row}
use Rattle.ordup_log.specs.declared.log.Log.TheInside.{Inside}

module _ {A : Type 0} where
  abbrev pub history_of : Inside A → History
  history_of l = record { start = l.start; sets = l.sets.items }

  -- the log is legal; the moves are those of its updates, and begin where they begin; each object has the weight of all updates on
  -- it, and in each row that of the updates up to the row; and the end has the serial result of all of it
  pub record IsLog (l : Inside A) : Type 0 where
    pub few : vec_len l.sets ≤ most_updates
    pub legal : IsLegalHistory (history_of l)
    pub same : length l.end ≡ length l.start
    pub moves : l.moves.items ≡ moves_below (history_of l) (length l.sets.items)
    pub kept : vec_len l.begins ≡ vec_len l.sets
    pub begins : (k : ℕ) → k < length l.sets.items → slice_index_or l.begins.items k 0 ≡ length (moves_below (history_of l) k)
    pub count : length l.travelled.items ≡ length l.start
    pub travelled : AreMarks (history_of l) (length l.sets.items) l.travelled.items
    pub marked : length l.marks.items ≡ length l.sets.items / updates_a_row * length l.start
    pub marks : (b x : ℕ) → b < length l.sets.items / updates_a_row → x < length l.start →
        slice_index_or l.marks.items (b * length l.start + x) 0 ≡ object_span (history_of l) x 0 (updates_a_row * suc b)
    pub end : l.end ≡ serial (history_of l) (vec_len l.sets)
