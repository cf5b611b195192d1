-- The sizes of limits, as `sizes.rt` has them.
use Rattle.std.specs.Prelude.{ℕ}

-- the scopes on which a site has limits
abbrev pub most_limits : ℕ
most_limits = 64

-- the entries of a site: limits with the places from which they hold
abbrev pub most_entries : ℕ
most_entries = 1088

-- the amount of a limit
abbrev pub greatest_amount : ℕ
greatest_amount = 1000000000000000000
