-- What the changes that cross from C stand for.
use Rattle.std.specs.Prelude.{ℕ, ℤ, ◌==◌, ◌&&◌, ◌||◌, not, if◌then◌else◌, Option, Some, Bool, List, map, nat_le, unsigned_abs}
use Rattle.std.specs.Int.{is_negative}
use Rattle.std.specs.List.{list_all}
use Rattle.ordup_objects.specs.declared.change.Change.{Change}
use Rattle.ordup_objects.specs.declared.change.Op.{Op}
use Rattle.ordup_objects.specs.declared.change.Op.TheVariants.{Add, Set, Mul, Max, Min, Take}
use Rattle.ordup_objects.specs.declared.refusal.Refusal.{Refusal}
use Rattle.ordup_objects.specs.declared.refusal.Refusal.TheVariants.{Syntax, UnknownObject}
use Rattle.ordup_objects.specs.Sets.{set_refusal}
use Rattle.ordup_shapes.specs.declared.change.RawChange.{RawChange}
use Rattle.ordup_shapes.specs.declared.change.TheConstants.{TAKE}

-- the greatest number that an object may have: no store has an object of a greater one
abbrev pub greatest_object : ℕ
greatest_object = 65535

-- the operation of a change, by its code
abbrev pub op_of : ℕ → ℤ → Op
op_of code n =
    if code == 0 then Add n else
    if code == 1 then Set n else
    if code == 2 then Mul n else
    if code == 3 then Max n else
    if code == 4 then Min n else Take (unsigned_abs n)

-- the change that it stands for
abbrev pub change_of : RawChange → Change
change_of raw = record { object = raw.object; op = op_of raw.op raw.operand }

-- its code is that of an operation
abbrev pub has_op : RawChange → Bool
has_op raw = nat_le raw.op TAKE

-- its object may be one of a store, and that which a `take` reads too
abbrev pub has_objects : RawChange → Bool
has_objects raw =
    nat_le raw.object greatest_object
    && (not (raw.op == TAKE) || (not (is_negative raw.operand) && nat_le (unsigned_abs raw.operand) greatest_object))

-- why changes are refused as a message set over n objects, if they are
abbrev pub changes_refusal : ℕ → List RawChange → Option Refusal
changes_refusal n raws =
    if not (list_all has_op raws) then Some Syntax else
    if not (list_all has_objects raws) then Some UnknownObject else set_refusal n (map change_of raws)
