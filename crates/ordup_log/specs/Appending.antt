-- What a log takes.
use Rattle.std.specs.Prelude.{◌==◌, if◌then◌else◌, Option, Some, None, List, length}
use Rattle.ordup_objects.specs.declared.change.Change.{Change}
use Rattle.ordup_objects.specs.declared.refusal.Refusal.{Refusal}
use Rattle.ordup_objects.specs.declared.refusal.Refusal.TheVariants.{OutOfRange, LogFull}
use Rattle.ordup_objects.specs.Sizes.{most_updates}
use Rattle.ordup_objects.specs.States.{is_legal}
use Rattle.ordup_objects.specs.Serial.{History, serial}

-- why an update is refused, if it is
abbrev pub append_refusal : History → List Change → Option Refusal
append_refusal h m =
    if length h.sets == most_updates then Some LogFull else
    if is_legal m (serial h (length h.sets)) then None else Some OutOfRange
