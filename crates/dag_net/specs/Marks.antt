-- Marks at the vertices or edges of a net.
use Rattle.std.specs.Prelude.{ℕ, List, Bool, false, slice_index_or}

-- the mark at a place; behind the last one none is set
abbrev pub is_set : List Bool → ℕ → Bool
is_set flags v = slice_index_or flags v false
