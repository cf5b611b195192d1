use Rattle.std.proofs.Common.{◌≡◌, ◌+◌, ◌-◌, ◌≤◌, drop, length}
use Rattle.std.specs.List.{prefix_len}
use Rattle.ordup_grammar.specs.Requests.{is_printed}
use Rattle.ordup_grammar.proofs.bytes.printed_prefix.Given as goal

-- all bytes so far are printed
abbrev pub invariant-loop-index : goal.invariant-loop-index
invariant-loop-index l =
    (l.index ≤ length l.bytes) × (prefix_len is_printed l.bytes ≡ l.index + prefix_len is_printed (drop l.index l.bytes))

abbrev pub decreases-loop-index : goal.decreases-loop-index
decreases-loop-index l = length l.bytes - l.index

-- the same
abbrev pub invariant-loop-index-2 : goal.invariant-loop-index-2
invariant-loop-index-2 l =
    (l.index ≤ length l.bytes) × (prefix_len is_printed l.bytes ≡ l.index + prefix_len is_printed (drop l.index l.bytes))

abbrev pub decreases-loop-index-2 : goal.decreases-loop-index-2
decreases-loop-index-2 l = length l.bytes - l.index
