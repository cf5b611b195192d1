-- The outcome of a plan that was run in threads.
use Rattle.std.specs.Prelude.{◌≡◌, ℕ, zero, suc, ◌+◌, ◌≤◌, Option, Some, None, List, [], ◌∷◌, ◌++◌, codes, length}
use Rattle.std.specs.Prelude.{slice_get, slice_index_or}
use Rattle.std.specs.Fmt.{decimal}
use Rattle.ordup_primary.specs.Primaries.{PrimaryState, progress_at}
use Rattle.ordup_site.specs.Sites.{SiteState}
use Rattle.ordup_text.specs.Lines.{done_text, numbered_text, values_text}
use Rattle.ordup_cluster.specs.Clusters.{ClusterState, ClosedState, IsClosed}

-- the name of site s of these
abbrev pub name_of : List (List ℕ × ℕ) → ℕ → List ℕ
name_of sites s = (slice_index_or sites s ([], 0)).0

-- `site S applied A rounds N X=V ..`
abbrev pub site_text : PrimaryState → ℕ → SiteState → List ℕ
site_text p s x =
    codes "site " ++ name_of p.setup.sites s ++ codes " applied " ++ decimal x.applied ++ codes " rounds "
    ++ decimal (length (progress_at p s).rounds) ++ values_text p.setup.objects x.values ++ 10 ∷ []

-- the same of the site in place s, where there is one
abbrev pub text_of_site : PrimaryState → ℕ → Option SiteState → List ℕ
text_of_site p s None = []
text_of_site p s (Some x) = site_text p s x

-- `certified S N`
abbrev pub certified_text : PrimaryState → ℕ → List ℕ
certified_text p s = numbered_text (codes "certified ") (name_of p.setup.sites s) (length (progress_at p s).rounds)

-- the texts of the first n places, one after another
abbrev pub texts_below : (ℕ → List ℕ) → ℕ → List ℕ
texts_below f zero = []
texts_below f (suc n) = texts_below f n ++ f n

-- The length of the log, the proposals that were refused and those that were left pending, what each site applied and holds, and
-- how many rounds it is shown to need.
abbrev pub outcome_text : ClosedState → ℕ → ℕ → List ℕ
outcome_text c refused pending =
    done_text (codes "log ") (length c.primary.log.sets) ++ done_text (codes "refused ") refused
    ++ done_text (codes "pending ") pending
    ++ texts_below (λ s. text_of_site c.primary s (slice_get c.sites s)) (length c.primary.setup.sites)
    ++ texts_below (certified_text c.primary) (length c.primary.setup.sites)

-- The text is the outcome of a closed cluster to which this number of sets was proposed. It is the one that was opened: as many updates
-- came before it, and it has the same declarations. Its log has as many updates as sets that were not refused.
pub record IsOutcome (opened : ClusterState) (sets : ℕ) (text : List ℕ) : Type 0 where
  pub closed : ClosedState
  pub refused : ℕ
  pub pending : ℕ
  pub sound : IsClosed closed
  pub before : closed.before ≡ opened.before
  pub start : closed.primary.setup ≡ opened.start
  pub updates : length closed.primary.log.sets + refused ≡ sets
  pub few : refused + pending ≤ sets
  pub shows : text ≡ outcome_text closed refused pending
