-- Levels of the vertices, which bound the change of every balanced flow from below.
use Rattle.std.specs.Prelude.{◌≡◌, ℕ, zero, suc, ◌<◌, ◌^◌, ◌||◌, List, length, slice_index, slice_index_or, All, IsTrue, ℤ, pos, negsuc, ◌+ℤ◌, ◌-ℤ◌, ◌*ℤ◌, ◌≤ℤ◌}
use Rattle.std.specs.Int.{int_min}
use Rattle.decomposition.specs.Graph.{Graph, edge_count, tail, head, is_source, is_sink}
use Rattle.decomposition.specs.Flow.{IsBalanced}
use Rattle.error_flow.specs.Nearest.{change}

-- the level at a place of a list
abbrev pub level_at : List ℤ → ℕ → ℤ
level_at levels v = slice_index_or levels v (pos 0)

-- how much the level rises along an edge
abbrev pub rise : Graph → (ℕ → ℤ) → ℕ → ℤ
rise g level e = level (head g e) -ℤ level (tail g e)

-- the lesser of 1 and a rise, times a weight
abbrev pub share : ℤ → ℕ → ℤ
share up weight = int_min (pos 1) up *ℤ pos weight

-- the shares of the first n edges
abbrev pub bound_before : Graph → (ℕ → ℕ) → (ℕ → ℤ) → ℕ → ℤ
bound_before g weight level zero = pos 0
bound_before g weight level (suc n) = bound_before g weight level n +ℤ share (rise g level n) (weight n)

-- the bound of levels: the shares of all edges
abbrev pub bound : Graph → (ℕ → ℕ) → (ℕ → ℤ) → ℤ
bound g weight level = bound_before g weight level (edge_count g)

-- the level of each source and of each sink is 0
abbrev pub IsZeroAtEnds : Graph → (ℕ → ℤ) → Type 0
IsZeroAtEnds g level = (v : ℕ) → v < g.vertices → IsTrue (is_source g v || is_sink g v) → level v ≡ pos 0

-- no edge falls by more than 1
abbrev pub IsGentle : Graph → (ℕ → ℤ) → Type 0
IsGentle g level = (e : ℕ) → e < edge_count g → negsuc 0 ≤ℤ rise g level e

-- allowed levels
pub record AreAllowed (g : Graph) (level : ℕ → ℤ) : Type 0 where
  pub ends : IsZeroAtEnds g level
  pub gentle : IsGentle g level

-- a level that is not too great: from -2^32 to 2^32
abbrev pub IsSmallLevel : ℤ → Type 0
IsSmallLevel level = (negsuc 4294967295 ≤ℤ level) × (level ≤ℤ pos 4294967296)

-- a balanced flow, allowed levels, and a number that is both the change of the flow and the bound of the levels
pub record ProvesNearest (g : Graph) (weights flow : List ℕ) (levels : List ℤ) (total : ℕ) : Type 0 where
  pub one_number_each : length flow ≡ edge_count g
  pub one_level_each : length levels ≡ g.vertices
  pub small_numbers : All (λ units. units < 2 ^ 63) flow
  pub small_levels : All IsSmallLevel levels
  pub balanced : IsBalanced g (slice_index flow)
  pub ends : IsZeroAtEnds g (level_at levels)
  pub gentle : IsGentle g (level_at levels)
  pub change : change g (slice_index weights) (slice_index flow) ≡ total
  pub bound : bound g (slice_index weights) (level_at levels) ≡ pos total
