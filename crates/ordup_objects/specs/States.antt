-- States, and what a message set makes of one.
use Rattle.std.specs.Prelude.{◌≡◌, ℕ, ◌≤◌, Bool, List, length, map, take, slice_index_or}
use Rattle.std.specs.Prelude.{slice_set, fold, nat_le, All, pos, ℤ, ◌+ℤ◌, ◌*ℤ◌}
use Rattle.std.specs.List.{list_all}
use Rattle.std.specs.Int.{int_max, int_min}
use Rattle.std.specs.Int.RustNames.{unsigned_abs}
use Rattle.ordup_objects.specs.Sizes.{greatest_value}
use Rattle.ordup_objects.specs.declared.change.Change.{Change}
use Rattle.ordup_objects.specs.declared.change.Op.{Op}
use Rattle.ordup_objects.specs.declared.change.Op.TheVariants.{Add, Set, Mul, Max, Min, Take}

-- the value of each object, by its index in the order of declaration
abbrev pub State : Type 0
State = List ℤ

abbrev pub value_at : State → ℕ → ℤ
value_at v x = slice_index_or v x (pos 0)

-- what an operation makes of a value, in the state before the set
abbrev pub result_of : State → ℤ → Op → ℤ
result_of v a (Add n) = a +ℤ n
result_of v a (Set n) = n
result_of v a (Mul n) = a *ℤ n
result_of v a (Max n) = int_max a n
result_of v a (Min n) = int_min a n
result_of v a (Take y) = value_at v y

-- what a change makes of its object's value, in the state before the set
abbrev pub result_at : State → Change → ℤ
result_at v c = result_of v (value_at v c.object) c.op

-- from -1,000,000,000 to 1,000,000,000
abbrev pub in_range : ℤ → Bool
in_range z = nat_le (unsigned_abs z) greatest_value

-- a set is legal on a state where each result is in range
abbrev pub is_legal : List Change → State → Bool
is_legal m v = list_all (λ c. in_range (result_at v c)) m

-- the front of a list is the results of a set, in the order of its changes
abbrev pub AreResults : State → List Change → List ℤ → Type 0
AreResults v m results = take (length m) results ≡ map (result_at v) m

-- the state with the results in the places of the changed objects
abbrev pub after : List Change → State → State
after m v = fold (λ w c. slice_set w c.object (result_at v c)) v m

-- a value that is in range, as a fact
abbrev pub IsInRange : ℤ → Type 0
IsInRange z = unsigned_abs z ≤ greatest_value

-- each value is in range
abbrev pub IsState : State → Type 0
IsState v = All IsInRange v
