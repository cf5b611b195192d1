-- The sizes of records as text.
use Rattle.std.specs.Prelude.{ℕ}

-- the most bytes of a record that is read
abbrev pub most_record_bytes : ℕ
most_record_bytes = 8589934592
