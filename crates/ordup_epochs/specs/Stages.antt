-- What lies under the lock of the epochs, and what the start of a successor makes of it.
use Rattle.std.specs.Prelude.{◌≡◌, ℕ, ◌<◌, ◌⊎◌, Bool, true, false, length}
use Rattle.ordup_objects.specs.declared.refusal.Refusal.{Refusal}
use Rattle.ordup_objects.specs.declared.refusal.Refusal.TheVariants.{NotYet, Stopped, NoMemory, Mixed}
use Rattle.ordup_objects.specs.Refusals.{IsRefusal}
use Rattle.ordup_cluster.specs.Clusters.{ClusterState, ClosedState, IsSuccessor, IsClosed, closed_successor_refusal}
use Rattle.ordup_epochs.specs.declared.stage.Stage.{Stage}
use Rattle.ordup_epochs.specs.declared.stage.Stage.TheVariants.{Open, Closed, Over}

-- an epoch is open
abbrev pub is_open : Stage → Bool
is_open (Open epoch) = true
is_open (Closed ended refusal) = false
is_open (Over site) = false

-- the epoch that is open is the successor of this one
abbrev pub IsOpenAfter : ClosedState → Stage → Type 0
IsOpenAfter ended stage = (epoch : ClusterState) × (stage ≡ Open epoch) × IsSuccessor ended epoch

-- What has ended is the store that was open: as many updates came before it, it has the same declarations, and this many updates are
-- in its log. Its sites agree with the log, and each keeps its limits.
pub record IsEnd (epoch : ClusterState) (numbered : ℕ) (ended : ClosedState) : Type 0 where
  pub before : ended.before ≡ epoch.before
  pub start : ended.primary.setup ≡ epoch.start
  pub updates : length ended.primary.log.sets ≡ numbered
  pub closed : IsClosed ended

-- what is left of the epoch of a stage, of which so many updates were numbered; or it had ended already
abbrev pub IsEndOf : Stage → ℕ → ClosedState → Type 0
IsEndOf (Open epoch) numbered ended = IsEnd epoch numbered ended
IsEndOf (Closed last refusal) numbered ended = ended ≡ last
IsEndOf (Over site) numbered ended = ⊥

-- For which site nothing is left of the epoch of a stage: a site of it did not agree with the log, or nothing was left already. The
-- first site stands for an epoch that is not the one that was open.
abbrev pub IsLost : Stage → ℕ → Type 0
IsLost (Open epoch) site = site < length epoch.start.sites
IsLost (Closed last why) site = ⊥
IsLost (Over lost) site = site ≡ lost

-- After a refusal what is left of the epoch is kept, with the refusal, which is that of its successor; or nothing is left of it.
abbrev pub IsLeft : Stage → ℕ → Refusal → Stage → Type 0
IsLeft old numbered refusal new =
    ((ended : ClosedState) × IsEndOf old numbered ended × IsRefusal (closed_successor_refusal ended) refusal
    × (new ≡ Closed ended refusal))
    ⊎ ((site : ℕ) × (refusal ≡ Mixed site) × IsLost old site × (new ≡ Over site))

-- What is refused where the epoch that was open, or the one that has ended, is not followed by another: the refusal of its successor,
-- or that a site did not agree with the log.
abbrev pub IsNotFollowed : Refusal → Type 0
IsNotFollowed refusal =
    ((ended : ClosedState) × IsRefusal (closed_successor_refusal ended) refusal) ⊎ ((site : ℕ) × (refusal ≡ Mixed site))

-- what is refused where the update with this number is not settled
abbrev pub IsNotSettled : ℕ → Refusal → Type 0
IsNotSettled last refusal = (refusal ≡ NoMemory) ⊎ (refusal ≡ NotYet last)

-- Of the start of a successor: the epochs were stopped, the last update was not settled, or the epoch is not followed by another. Which
-- store it was, and how many updates it had, no clause can say, since it lies under a lock.
abbrev pub IsStartRefusal : Refusal → Type 0
IsStartRefusal refusal = (refusal ≡ Stopped) ⊎ ((last : ℕ) × IsNotSettled last refusal) ⊎ IsNotFollowed refusal

-- a visit is to an epoch that is open
abbrev pub IsVisited : Stage → Type 0
IsVisited stage = (epoch : ClusterState) × (stage ≡ Open epoch)

-- why no epoch is open
abbrev pub IsWhyClosed : Stage → Refusal → Type 0
IsWhyClosed (Open epoch) refusal = ⊥
IsWhyClosed (Closed ended why) refusal = refusal ≡ why
IsWhyClosed (Over site) refusal = refusal ≡ Mixed site
