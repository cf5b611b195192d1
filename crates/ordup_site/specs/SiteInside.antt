-- What the fields of a site keep.
use Rattle.std.specs.Prelude.{◌≡◌, ◌≤◌, ◌*◌, length, All}
use Rattle.ordup_objects.specs.Sizes.{most_changes, most_updates, greatest_distance}
use Rattle.ordup_site.specs.declared.site.Site.TheInside.{Inside}

-- each object has a value and a travelled weight, which fits, and there is memory for the move of each change of a set
module _ {A : Type 0} where
  pub record IsSite (s : Inside A) : Type 0 where
    pub few : s.applied ≤ most_updates
    pub same : length s.travelled.items ≡ length s.values
    pub bounded : All (λ t. t ≤ greatest_distance * s.applied) s.travelled.items
    pub spare : length s.moves ≡ most_changes
