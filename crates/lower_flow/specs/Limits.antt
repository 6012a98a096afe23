-- How great the bounds of a range may be.
use Rattle.std.specs.Prelude.{ℕ}

-- the greatest upper bound of an edge
abbrev pub most_units : ℕ
most_units = 1000000000000

-- the same where an edge may carry what 4,096 edges may each have: 4,096 of them still sum to less than 2 ^ 64
abbrev pub most_wide_units : ℕ
most_wide_units = 4096000000000000
