-- A list of sites in the fields of a `SiteList`.
use Rattle.std.specs.Prelude.{◌≡◌, ◌≤◌, ℕ, List, length, take}
use Rattle.ordup_objects.specs.Sizes.{most_sites}
use Rattle.ordup_primary.specs.declared.site_list.SiteList.TheInside.{Inside}

abbrev pub sites_of : Inside → List ℕ
sites_of l = take l.count l.sites

-- the array is as long as a store may have sites, and no more of them count
pub record HasFewSites (l : Inside) : Type 0 where
  pub size : length l.sites ≡ most_sites
  pub few : l.count ≤ most_sites
