use Rattle.std.proofs.Common.{◌≡◌, ◌++◌, ◌≤◌, ◌+◌, length, take, vec_len}
use Rattle.std.specs.Prelude.{vec_capacity}
use Rattle.ordup_log.proofs.marks.push_all.Given as goal

-- the numbers so far come after the old ones, and there is spare capacity for the others
abbrev pub invariant-loop-number : goal.invariant-loop-number
invariant-loop-number g l = record {
  so_far : l.list.items ≡ l.fn.list.items ++ take l.number-index l.numbers;
  len : vec_len l.list ≡ vec_len l.fn.list + l.number-index;
  spare : vec_len l.fn.list + length l.numbers ≤ vec_capacity l.list;
}
