-- The changes in the fields of a `MessageSet`.
use Rattle.std.specs.Prelude.{List}
use Rattle.ordup_objects.specs.declared.change.Change.{Change}
use Rattle.ordup_objects.specs.declared.message_set.Changes.{Changes}
use Rattle.ordup_objects.specs.declared.message_set.Changes.TheVariants.{One, Many}

abbrev pub changes_of : {A : Type 0} → Changes A → List Change
changes_of (One changes) = changes
changes_of (Many changes) = changes.items
