-- Epochs that are put into an archive, one more at a time.
use Rattle.std.proofs.Common.{◌≡◌, ℕ, ◌+◌, ◌∷◌, ◌++◌, List, [], length, min, arith, ap, sym, ◌∙◌}
use Rattle.std.proofs.lemmas.Fn.{FoldsTo-push}
use Rattle.std.proofs.lemmas.List.{length-append}
use Rattle.ordup_cluster.specs.Clusters.{ClosedState}
use Rattle.ordup_epochs.specs.Archives.{Archives, ArchivesAll}

-- one more is counted, up to the greatest count
counts_one_more : (n m k most : ℕ) → m ≡ min n most → k ≡ min (m + 1) most → k ≡ min (n + 1) most
counts_one_more n m k most e f = omega arith

-- so many were put into the archive, and then another one
pub archives_one_more : {A : Type 0} (adds : A → ClosedState → A → Type 0) (old mid new : A) (x : ClosedState) (m k most : ℕ)
    → ((all : List ClosedState) × ArchivesAll adds old all mid × (m ≡ min (length all) most)) → Archives adds mid x new
    → k ≡ min (m + 1) most → ((all : List ClosedState) × ArchivesAll adds old all new × (k ≡ min (length all) most))
archives_one_more adds old mid new x m k most before one counted = (
  before.0 ++ x ∷ [],
  FoldsTo-push (Archives adds) old before.0 mid x new before.1 one,
  counts_one_more (length before.0) m k most before.2 counted ∙ ap (λ n. min n most) (sym (length-append before.0 (x ∷ []))),
)
