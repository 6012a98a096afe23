-- Booked paths, edge by edge.
use Rattle.std.specs.Prelude.{◌≡◌, ◌≢◌, ℕ, ◌<◌, List, length, slice_index_or, Option, None, Some, MatchOption, IsTrue}
use Rattle.std.specs.List.{AllByRecursion}
use Rattle.decomposition.specs.Graph.{Graph, edge_count, tail, head, is_source, is_sink, is_walk_from, walk_end}
use Rattle.decomposition.specs.FirstAnswer.{IsBooked, with_unit}
use Rattle.greedy_paths.specs.declared.greatest.GreatestEdges.{GreatestEdges}

-- for each vertex an edge whose end it is, none only where there is no such edge
pub record AreEdgesAt (g : Graph) (end : ℕ → ℕ) (listed : List (Option ℕ)) : Type 0 where
  pub room : length listed ≡ g.vertices
  pub at : (v : ℕ) → v < g.vertices → MatchOption (slice_index_or listed v None) ((e : ℕ) → e < edge_count g → end e ≢ v) (λ e. (e < edge_count g) × (end e ≡ v))

-- for each vertex an edge into it, and one out of it
pub record AreEdges (g : Graph) (edges : GreatestEdges) : Type 0 where
  pub into : AreEdgesAt g (head g) edges.into.items
  pub out_of : AreEdgesAt g (tail g) edges.out_of.items

-- the edge is the one that is listed for its end
abbrev pub IsListed : (ℕ → ℕ) → List (Option ℕ) → ℕ → Type 0
IsListed end listed e = slice_index_or listed (end e) None ≡ Some e

-- a walk from a source to v by the edges that are listed for their heads
pub record ComesFromSource (g : Graph) (into : List (Option ℕ)) (v : ℕ) (es : List ℕ) : Type 0 where
  pub start : ℕ
  pub source : IsTrue (is_source g start)
  pub walk : IsTrue (is_walk_from g start es)
  pub end : walk_end g start es ≡ v
  pub listed : AllByRecursion (IsListed (head g) into) es

-- a walk from v to a sink by the edges that are listed for their tails
pub record GoesToSink (g : Graph) (out_of : List (Option ℕ)) (v : ℕ) (es : List ℕ) : Type 0 where
  pub walk : IsTrue (is_walk_from g v es)
  pub sink : IsTrue (is_sink g (walk_end g v es))
  pub listed : AllByRecursion (IsListed (tail g) out_of) es

-- the booked paths of the rules, each with weight 1
abbrev pub AreBooked : Graph → (ℕ → ℕ) → List (List ℕ) → List (List ℕ × ℕ) → Type 0
AreBooked g flow rules a = (booked : List (List ℕ)) × (a ≡ with_unit booked) × IsBooked g flow rules booked
