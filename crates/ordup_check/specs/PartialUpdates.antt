-- Updates as far as their rows were read.
use Rattle.std.specs.Prelude.{◌≡◌, ◌<◌, false, List, [], length, slice_index_or}
use Rattle.ordup_objects.specs.Serial.{History, serial}
use Rattle.ordup_objects.specs.States.{is_legal}
use Rattle.ordup_objects.specs.Tables.{Objects}
use Rattle.ordup_objects.specs.declared.change.Change.{Change}

-- objects, and updates over them
pub record Updates : Type 0 where
  pub objects : Objects
  pub sets : List (List Change)

-- the first of these is not legal after the log
abbrev pub BeginsIllegal : History → List (List Change) → Type 0
BeginsIllegal log rest = 0 < length rest → is_legal (slice_index_or rest 0 []) (serial log (length log.sets)) ≡ false
