-- What `keep` puts into an archive.
use Rattle.std.specs.Prelude.{◌≡◌, List, None}
use Rattle.std.specs.List.{FoldsTo}
use Rattle.ordup_cluster.specs.Clusters.{ClosedState, IsClosed, closed_successor_refusal}

-- an epoch that a successor follows: it is closed, and all its updates are acknowledged
abbrev pub IsFollowed : ClosedState → Type 0
IsFollowed ended = IsClosed ended × (closed_successor_refusal ended ≡ None)

-- an archive became another one by such an epoch
abbrev pub Archives : {A : Type 0} → (A → ClosedState → A → Type 0) → A → ClosedState → A → Type 0
Archives adds old ended new = IsFollowed ended × adds old ended new

-- an archive became another one by these epochs, one after another, and by nothing else
abbrev pub ArchivesAll : {A : Type 0} → (A → ClosedState → A → Type 0) → A → List ClosedState → A → Type 0
ArchivesAll adds old all new = FoldsTo (Archives adds) old all new
