-- The edges that enter each vertex, one after the other.
use Rattle.std.specs.Prelude.{◌≡◌, ◌≢◌, ℕ, ◌+◌, ◌<◌, ◌≤◌, List, length, Option, None, MatchOption, slice_index_or}
use Rattle.decomposition.specs.Graph.{Graph, edge_count, head}

-- the first edge from place `from` on that enters v, if there is one
abbrev pub IsFirstInto : Graph → ℕ → ℕ → Option ℕ → Type 0
IsFirstInto g v from found =
    MatchOption found ((e : ℕ) → from ≤ e → e < edge_count g → head g e ≢ v) (λ e. (from ≤ e) × (e < edge_count g) × (head g e ≡ v) × ((d : ℕ) → from ≤ d → d < e → head g d ≢ v))

-- of the edges from place `from` on: the first that enters each vertex, and after each edge the next one with the same head
pub record EnterFrom (g : Graph) (from : ℕ) (first next : List (Option ℕ)) : Type 0 where
  pub vertices_count : length first ≡ g.vertices
  pub edges_count : length next ≡ edge_count g
  pub firsts : (v : ℕ) → v < g.vertices → IsFirstInto g v from (slice_index_or first v None)
  pub nexts : (e : ℕ) → from ≤ e → e < edge_count g → IsFirstInto g (head g e) (e + 1) (slice_index_or next e None)
