use Rattle.std.proofs.Common.{◌≡◌, ◌==◌, ℕ, true, false, length, map}
use Rattle.std.specs.Int.{bit_at}
use Rattle.std.specs.Prelude.{slice_index_or}
use Rattle.ordup_primary.specs.PrimaryInside.{kept_of, HasSpare}
use Rattle.ordup_primary.specs.declared.progress.Progress.{Progress}
use Rattle.ordup_primary.proofs.decisions.reserve_decision.Given as goal

-- nothing changed, and the sites whose bits are taken have spare capacity
abbrev pub invariant-loop-rest : goal.invariant-loop-rest
invariant-loop-rest g l = record {
  same : map kept_of l.sites.items ≡ map kept_of l.fn.sites.items;
  count : length l.sites.items ≡ length l.fn.sites.items;
  left : (s : ℕ) → (bit_at l.rest s == 1) ≡ true → (bit_at l.mask s == 1) ≡ true;
  spare : (s : ℕ) (d : Progress g.row.A.Denot) → (bit_at l.mask s == 1) ≡ true → (bit_at l.rest s == 1) ≡ false
      → HasSpare (slice_index_or l.sites.items s d);
}

abbrev pub decreases-loop-rest : goal.decreases-loop-rest
decreases-loop-rest g l = l.rest
