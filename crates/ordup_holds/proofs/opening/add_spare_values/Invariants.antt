use Rattle.std.proofs.Common.{◌≡◌, length}
use Rattle.std.specs.Prelude.{All}
use Rattle.ordup_objects.specs.Tables.{initial_state}
use Rattle.ordup_holds.proofs.opening.add_spare_values.Given as goal

-- the values of the sites so far
abbrev pub invariant-loop : goal.invariant-loop
invariant-loop l = record {
  count : length l.spare_values.items ≡ l.counter;
  initial : All (λ v. v ≡ initial_state l.setup.objects) l.spare_values.items;
}
