use Rattle.std.proofs.Common.{◌≡◌, ◌++◌, ◌≤◌, ◌+◌, length, take, vec_len}
use Rattle.std.specs.Prelude.{vec_capacity}
use Rattle.ordup_objects.specs.Moves.{moves_of}
use Rattle.ordup_objects.proofs.values.put_moves.Given as goal

-- the moves so far come after the old ones, and there is spare capacity for the others
abbrev pub invariant-loop-i : goal.invariant-loop-i
invariant-loop-i g l = record {
  so_far : l.moves.items ≡ l.fn.moves.items ++ moves_of l.values (take l.i l.changes);
  len : vec_len l.moves ≡ vec_len l.fn.moves + l.i;
  spare : vec_len l.fn.moves + length l.changes ≤ vec_capacity l.moves;
}
