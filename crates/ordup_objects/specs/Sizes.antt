-- The sizes of the store, as `sizes.rt` has them.
use Rattle.std.specs.Prelude.{ℕ, ◌*◌}

-- a value lies from minus this to this
abbrev pub greatest_value : ℕ
greatest_value = 1000000000

-- so two values are no further apart
abbrev pub greatest_distance : ℕ
greatest_distance = 2 * greatest_value

-- the bytes of a name
abbrev pub most_name_bytes : ℕ
most_name_bytes = 16

-- the objects of a store
abbrev pub most_objects : ℕ
most_objects = 256

-- the changes of a message set
abbrev pub most_changes : ℕ
most_changes = 64

-- the groups of objects
abbrev pub most_groups : ℕ
most_groups = 32

-- the objects in a group
abbrev pub most_members : ℕ
most_members = 64

-- the sites of a store
abbrev pub most_sites : ℕ
most_sites = 16

-- the capacity of a site's feed
abbrev pub greatest_capacity : ℕ
greatest_capacity = 1024

-- the updates of a log
abbrev pub most_updates : ℕ
most_updates = 1000000

-- what an update weighs on any scope
abbrev pub greatest_weight : ℕ
greatest_weight = most_changes * greatest_distance
