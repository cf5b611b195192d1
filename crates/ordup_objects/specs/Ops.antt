-- What an operation has beside its kind: a number, or an object that it reads.
use Rattle.std.specs.Prelude.{ℕ, ℤ, Bool, true, Option, Some, None}
use Rattle.ordup_objects.specs.declared.change.Op.{Op}
use Rattle.ordup_objects.specs.declared.change.Op.TheVariants.{Add, Set, Mul, Max, Min, Take}
use Rattle.ordup_objects.specs.declared.change.NumberOp.{NumberOp}
use Rattle.ordup_objects.specs.declared.change.NumberOp.TheVariants as kind

-- the operation of a kind by a number
abbrev pub op_with : NumberOp → ℤ → Op
op_with kind.Add n = Add n
op_with kind.Set n = Set n
op_with kind.Mul n = Mul n
op_with kind.Max n = Max n
op_with kind.Min n = Min n

-- the number of an operation, if it has one
abbrev pub number_of : Op → Option ℤ
number_of (Add n) = Some n
number_of (Set n) = Some n
number_of (Mul n) = Some n
number_of (Max n) = Some n
number_of (Min n) = Some n
number_of (Take y) = None

-- the object whose value an operation reads besides its own, if there is one
abbrev pub source_of : Op → Option ℕ
source_of (Take y) = Some y
source_of _ = None

-- there is none, or it passes the test
abbrev pub is_none_or : {T : Type 0} → Option T → (T → Bool) → Bool
is_none_or None test = true
is_none_or (Some x) test = test x
