-- What there was of a site over stores that go on one from another, and its rounds in all of them.
use Rattle.std.specs.Prelude.{◌≡◌, ◌+◌, ◌<◌, ℕ, None, List, [], ◌∷◌, length, All}
use Rattle.ordup_limits.specs.Entries.{in_force}
use Rattle.ordup_primary.specs.Primaries.{IsPrimary, PrimaryState, limits_at, progress_at, reported_at}
use Rattle.ordup_cluster.specs.Clusters.{ClosedState, ClusterState, IsSuccessor, closed_successor_refusal}
use Rattle.ordup_record.specs.Successive.{AreSuccessive, GoesOn}
use Rattle.ordup_rounds.specs.Fewest.{AreFewest}
use Rattle.ordup_series.specs.Series.{Whole, is_within, joined_wholes}

-- a store, with the limits, the reports, the rounds and the windows of its site s
abbrev pub whole_of_store : ℕ → PrimaryState → Whole
whole_of_store s p = record {
  history = p.log;
  groups = p.setup.groups;
  limits_at = in_force (limits_at p s);
  reported_at = reported_at (progress_at p s);
  rounds = (progress_at p s).rounds;
  windows = (progress_at p s).windows;
}

-- and with the stores after it behind it
abbrev pub whole_of_stores : ℕ → PrimaryState → List PrimaryState → Whole
whole_of_stores s p [] = whole_of_store s p
whole_of_stores s p (q ∷ more) = joined_wholes (whole_of_store s p) (whole_of_stores s q more)

-- how many places of all stores are decided: those of the last one, and each place before it
abbrev pub decided_in : PrimaryState → List PrimaryState → ℕ
decided_in p [] = p.decided
decided_in p (q ∷ more) = length p.log.sets + decided_in q more

-- the rounds of a site over stores that go on one from another are the fewest of the whole at each decided place
abbrev pub SuccessiveStoresHaveTheFewestRounds : Type 0
SuccessiveStoresHaveTheFewestRounds =
    (s : ℕ) (p : PrimaryState) (more : List PrimaryState) → All IsPrimary (p ∷ more) → s < length p.sites → AreSuccessive p more →
    AreFewest (is_within (whole_of_stores s p more)) (whole_of_stores s p more).reported_at (decided_in p more)
    (whole_of_stores s p more).rounds (whole_of_stores s p more).windows

-- where a closed cluster is not refused a successor, what that was when it was closed goes on from it
abbrev pub SuccessorsGoOn : Type 0
SuccessorsGoOn =
    (p q : ClosedState) (c : ClusterState) → closed_successor_refusal p ≡ None → IsSuccessor p c → q.primary.setup ≡ c.start
    → GoesOn p.primary q.primary
