-- How many edges a net has, and how great a weight is.
use Rattle.std.specs.Prelude.{ℕ}

-- the most edges of a net
abbrev pub most_edges : ℕ
most_edges = 4096

-- the greatest weight of an edge
abbrev pub most_weight : ℕ
most_weight = 1000000000000
