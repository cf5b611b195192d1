-- The sizes of a world, as `sizes.rt` has them.
use Rattle.std.specs.Prelude.{ℕ}

-- the queries that are open at a time
abbrev pub most_queries : ℕ
most_queries = 64
