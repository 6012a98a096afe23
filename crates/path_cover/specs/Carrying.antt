-- Flows that carry every needed edge, and what is missing where a unit is on its way.
use Rattle.std.specs.Prelude.{◌≡◌, ℕ, ◌+◌, ◌^◌, ◌≤◌, ◌<◌, ◌==◌, Bool, cond, List, length, slice_index, IsTrue}
use Rattle.decomposition.specs.Graph.{Graph, IsNet, edge_count, head, is_inner, is_source, is_sink}
use Rattle.decomposition.specs.Answer.{sum_below}
use Rattle.decomposition.specs.Flow.{IsBalanced, flow_into, flow_out_of}

-- the least flow of an edge: 1 where it is needed
abbrev pub least_flow : (ℕ → Bool) → ℕ → ℕ
least_flow needed e = cond (needed e) 1 0

-- a balanced flow with at least its least flow on each edge
pub record IsCarrying (g : Graph) (needed : ℕ → Bool) (flow : ℕ → ℕ) : Type 0 where
  pub balanced : IsBalanced g flow
  pub enough : (e : ℕ) → e < edge_count g → least_flow needed e ≤ flow e

-- no edge of a first flow has more: at most 16,385 units for each of 4,096 edges
abbrev pub most_at_first : ℕ
most_at_first = 67112960

-- how much flow enters the sinks
abbrev pub arriving : Graph → (ℕ → ℕ) → ℕ
arriving g flow = sum_below (λ e. cond (is_sink g (head g e)) (flow e) 0) (edge_count g)

-- one unit at a vertex, none at the others
abbrev pub unit_at : ℕ → ℕ → ℕ
unit_at v w = cond (v == w) 1 0

-- balanced once one more unit enters a and one more leaves b
abbrev pub IsBalancedBut : Graph → (ℕ → ℕ) → ℕ → ℕ → Type 0
IsBalancedBut g flow a b = (v : ℕ) → IsTrue (is_inner g v) → flow_into g flow v + unit_at a v ≡ flow_out_of g flow v + unit_at b v

-- no edge has less than before, and none has more than n units more
pub record IsMore (old new : ℕ → ℕ) (n : ℕ) : Type 0 where
  pub kept : (e : ℕ) → old e ≤ new e
  pub few : (e : ℕ) → new e ≤ old e + n

-- the unit that is to leave v leaves a sink in its place
abbrev pub IsSentOn : Graph → (ℕ → ℕ) → (ℕ → ℕ) → ℕ → Type 0
IsSentOn g old new v = (a : ℕ) → IsBalancedBut g old a v → (b : ℕ) × IsTrue (is_sink g b) × IsBalancedBut g new a b

-- the unit that is to enter v enters a source in its place
abbrev pub IsBroughtIn : Graph → (ℕ → ℕ) → (ℕ → ℕ) → ℕ → Type 0
IsBroughtIn g old new v = (b : ℕ) → IsBalancedBut g old v b → (a : ℕ) × IsTrue (is_source g a) × IsBalancedBut g new a b

-- a flow and a need of each edge of a net, with room for one unit more of each vertex
pub record MaySend (g : Graph) (needed : List Bool) (flow : List ℕ) : Type 0 where
  pub net : IsNet g
  pub one_need : length needed ≡ edge_count g
  pub one_flow : length flow ≡ edge_count g
  pub small : (e : ℕ) → slice_index flow e + g.vertices < 2 ^ 64

-- a flow and a need of each edge of a net, with room for a path more
pub record MayCarry (g : Graph) (needed : List Bool) (flow : List ℕ) : Type 0 where
  pub net : IsNet g
  pub vertices : g.vertices ≤ 8192
  pub one_need : length needed ≡ edge_count g
  pub one_flow : length flow ≡ edge_count g
  pub small : (e : ℕ) → slice_index flow e < 2 ^ 63

-- no edge has less than before, none has more than 16,385 units more, and a balanced flow stays balanced
pub record IsPathMore (g : Graph) (old new : ℕ → ℕ) : Type 0 where
  pub more : IsMore old new 16385
  pub balanced : IsBalanced g old → IsBalanced g new
