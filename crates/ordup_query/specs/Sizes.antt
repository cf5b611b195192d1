-- The sizes of queries, as `sizes.rt` has them.
use Rattle.std.specs.Prelude.{ℕ}

-- the accepted reads of a query
abbrev pub most_reads : ℕ
most_reads = 256

-- the import limit of a query
abbrev pub greatest_import_limit : ℕ
greatest_import_limit = 1000000000000000000
