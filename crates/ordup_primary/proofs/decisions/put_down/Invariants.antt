use Rattle.std.proofs.Common.{◌≡◌, ◌<◌, ◌==◌, ℕ, true, false, not, length}
use Rattle.std.specs.Int.{bit_at}
use Rattle.std.specs.Prelude.{slice_index_or}
use Rattle.ordup_primary.specs.PrimaryInside.{kept_at, kept_of}
use Rattle.ordup_primary.specs.declared.progress.Progress.{Progress}
use Rattle.ordup_primary.proofs.decisions.put_down.Given as goal

-- the sites whose bits are left are as they were, at the others the decision is put down
abbrev pub invariant-loop-rest : goal.invariant-loop-rest
invariant-loop-rest g l = record {
  count : length l.sites.items ≡ length l.fn.sites.items;
  left : (s : ℕ) → (bit_at l.rest s == 1) ≡ true → (bit_at l.mask s == 1) ≡ true;
  rest : (s : ℕ) (d : Progress g.row.A.Denot) → (bit_at l.rest s == 1) ≡ true
      → slice_index_or l.sites.items s d ≡ slice_index_or l.fn.sites.items s d;
  done : (s : ℕ) (d : Progress g.row.A.Denot) → s < length l.fn.sites.items → (bit_at l.rest s == 1) ≡ false
      → kept_of (slice_index_or l.sites.items s d)
      ≡ kept_at (not (bit_at l.forced s == 1)) l.number (kept_of (slice_index_or l.fn.sites.items s d));
}

abbrev pub decreases-loop-rest : goal.decreases-loop-rest
decreases-loop-rest g l = l.rest
