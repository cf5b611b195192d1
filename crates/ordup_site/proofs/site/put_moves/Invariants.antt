use Rattle.std.proofs.Common.{◌≡◌, ◌+◌, ◌≤◌, ◌*◌, All, drop, length}
use Rattle.ordup_objects.specs.Sizes.{greatest_distance, most_updates}
use Rattle.ordup_site.proofs.MoveLemmas.{moved_to, travelled_by}
use Rattle.ordup_site.proofs.site.put_moves.Given as goal

-- what is left goes on from the values so far, and from where they travelled
abbrev pub invariant-loop-moved : goal.invariant-loop-moved
invariant-loop-moved g l = record {
  values : moved_to (drop l.moved-index l.moves) l.values ≡ moved_to l.moves l.fn.values;
  objects : length l.values ≡ length l.fn.values;
  travelled : travelled_by (drop l.moved-index l.moves) l.travelled ≡ travelled_by l.moves l.fn.travelled;
  bounded : All (λ t. t ≤ greatest_distance * most_updates + greatest_distance * l.moved-index) l.travelled;
}
