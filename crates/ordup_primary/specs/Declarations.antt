-- What is declared before a store starts.
use Rattle.std.specs.Prelude.{◌≡◌, ℕ, ℤ, ◌≤◌, ◌==◌, ◌&&◌, ◌||◌}
use Rattle.std.specs.Prelude.{not, if◌then◌else◌, Option, Some, None, Bool, List, []}
use Rattle.std.specs.Prelude.{◌∷◌, ◌++◌, length, nat_lt, is_some, slice_index_or, slice_set, All}
use Rattle.std.specs.Option.{option_or}
use Rattle.ordup_objects.specs.declared.refusal.Refusal.{Refusal}
use Rattle.ordup_objects.specs.declared.refusal.Refusal.TheVariants.{BadName, NameTaken, UnknownSite, OutOfRange, TooMany, Empty}
use Rattle.ordup_objects.specs.Sizes.{most_sites, greatest_capacity}
use Rattle.ordup_objects.specs.Names.{is_name}
use Rattle.ordup_objects.specs.Tables.{index_of}
use Rattle.ordup_log.specs.Groups.{AreGroupsKnown}
use Rattle.ordup_log.specs.declared.scope.Scope.{Scope}
use Rattle.ordup_limits.specs.Limits.{scope_refusal, amount_refusal}
use Rattle.ordup_limits.specs.Entries.{Entries, latest, HoldFrom, AreEntriesKnown}

-- the objects with their initial values, the groups with their members, the sites with the capacities of their feeds, and the
-- limits of each site, in order of declaration
pub record Declared : Type 0 where
  pub objects : List (List ℕ × ℤ)
  pub groups : List (List ℕ × List ℕ)
  pub sites : List (List ℕ × ℕ)
  pub limits : List Entries

-- the capacity of a site's feed
abbrev pub capacity_of : Declared → ℕ → ℕ
capacity_of d s = (slice_index_or d.sites s ([], 0)).1

-- the limits of a site
abbrev pub limits_of : Declared → ℕ → Entries
limits_of d s = slice_index_or d.limits s []

-- one object more
abbrev pub with_object : Declared → List ℕ → ℤ → Declared
with_object d name initial = record d { objects = d.objects ++ (name, initial) ∷ [] }

-- one group more
abbrev pub with_group : Declared → List ℕ → List ℕ → Declared
with_group d name members = record d { groups = d.groups ++ (name, members) ∷ [] }

-- one site more, which has no limits
abbrev pub with_site : Declared → List ℕ → ℕ → Declared
with_site d name capacity = record d { sites = d.sites ++ (name, capacity) ∷ []; limits = d.limits ++ [] ∷ [] }

-- one limit of a site more, which holds from the start
abbrev pub with_limit : Declared → ℕ → Scope → ℕ → Declared
with_limit d s scope amount = record d {
  limits = slice_set d.limits s (limits_of d s ++ (record { limit = record { scope = scope; amount = amount }; place = 1 }) ∷ []);
}

-- the feeds of the sites have capacities of 1 to 1,024 updates
abbrev pub AreCapacities : List (List ℕ × ℕ) → Type 0
AreCapacities sites = All (λ e. (1 ≤ e.1) × (e.1 ≤ greatest_capacity)) sites

-- at least one object and one site
abbrev pub is_ready : Declared → Bool
is_ready d = nat_lt 0 (length d.objects) && nat_lt 0 (length d.sites)

-- why a start is refused, if it is
abbrev pub start_refusal : Declared → Option Refusal
start_refusal d = if not (is_ready d) then Some Empty else None

-- why a site is refused, if it is
abbrev pub site_refusal : List (List ℕ × ℕ) → List ℕ → ℕ → Option Refusal
site_refusal sites name capacity =
    if not (is_name name) then Some BadName else
    if is_some (index_of name sites) then Some NameTaken else
    if capacity == 0 || nat_lt greatest_capacity capacity then Some OutOfRange else
    if length sites == most_sites then Some TooMany else None

-- why a limit of a site is refused, if it is
abbrev pub site_limit_refusal : Declared → ℕ → Scope → ℕ → Option Refusal
site_limit_refusal d s scope amount =
    option_or (scope_refusal (length d.objects) d.groups scope) (
    if not (nat_lt s (length d.sites)) then Some UnknownSite else amount_refusal (latest (limits_of d s)) scope amount)

-- what the declarations keep: each site has its limits, which hold from the start, and their objects and groups are there
pub record AreDeclared (d : Declared) : Type 0 where
  pub few : length d.sites ≤ most_sites
  pub capacities : AreCapacities d.sites
  pub count : length d.limits ≡ length d.sites
  pub members : AreGroupsKnown (length d.objects) d.groups
  pub first : All (HoldFrom 1) d.limits
  pub known : All (AreEntriesKnown (length d.objects) d.groups) d.limits
