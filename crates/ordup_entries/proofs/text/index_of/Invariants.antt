use Rattle.std.proofs.Common.{◌≡◌, ◌+◌, ◌-◌, ◌≤◌, ◌==◌, drop, length}
use Rattle.std.specs.List.{position_or_len}
use Rattle.ordup_entries.proofs.text.index_of.Given as goal

-- no byte so far is wanted
abbrev pub invariant-loop-index : goal.invariant-loop-index
invariant-loop-index l =
    (l.index ≤ length l.bytes)
    × (position_or_len (λ byte. byte == l.wanted) l.bytes ≡ l.index + position_or_len (λ byte. byte == l.wanted) (drop l.index l.bytes))

abbrev pub decreases-loop-index : goal.decreases-loop-index
decreases-loop-index l = length l.bytes - l.index
