-- Flows, and how paths make them up.
use Rattle.std.specs.Prelude.{◌≡◌, ℕ, ◌-◌, ◌≤◌, ◌<◌, ◌==◌, cond, List, IsTrue}
use Rattle.decomposition.specs.Graph.{Graph, edge_count, tail, head, is_inner, IsPath, has_edge}
use Rattle.decomposition.specs.Answer.{sum_below, IsAnswer, weight_on}

-- the flow of the edges that enter a vertex
abbrev pub flow_into : Graph → (ℕ → ℕ) → ℕ → ℕ
flow_into g flow v = sum_below (λ e. cond (head g e == v) (flow e) 0) (edge_count g)

-- the flow of the edges that leave a vertex
abbrev pub flow_out_of : Graph → (ℕ → ℕ) → ℕ → ℕ
flow_out_of g flow v = sum_below (λ e. cond (tail g e == v) (flow e) 0) (edge_count g)

-- as much enters a vertex as leaves it
abbrev pub IsBalancedAt : Graph → (ℕ → ℕ) → ℕ → Type 0
IsBalancedAt g flow v = flow_into g flow v ≡ flow_out_of g flow v

-- as much enters each inner vertex as leaves it
abbrev pub IsBalanced : Graph → (ℕ → ℕ) → Type 0
IsBalanced g flow = (v : ℕ) → IsTrue (is_inner g v) → IsBalancedAt g flow v

-- an inner vertex that is not balanced, and that no such vertex stands before
pub record IsFirstUnbalanced (g : Graph) (flow : ℕ → ℕ) (v : ℕ) : Type 0 where
  pub inner : IsTrue (is_inner g v)
  pub unbalanced : ¬ IsBalancedAt g flow v
  pub earlier : (u : ℕ) → u < v → IsTrue (is_inner g u) → IsBalancedAt g flow u

-- what is left on the edges after a weight was taken off a path
abbrev pub rest_after : (ℕ → ℕ) → List ℕ → ℕ → ℕ → ℕ
rest_after rest p w e = rest e - cond (has_edge p e) w 0

-- a path that empties an edge: the flow of that edge is at least 1 and the least along the path
pub record EmptiesEdge (g : Graph) (flow : ℕ → ℕ) (p : List ℕ) (e : ℕ) : Type 0 where
  pub path : IsPath g p
  pub edge : IsTrue (has_edge p e)
  pub positive : 1 ≤ flow e
  pub least : (f : ℕ) → IsTrue (has_edge p f) → flow e ≤ flow f

-- a decomposition: an answer whose paths make up the flow of each edge
pub record Decomposes (g : Graph) (flow : ℕ → ℕ) (a : List (List ℕ × ℕ)) : Type 0 where
  pub answer : IsAnswer g a
  pub sums : (e : ℕ) → e < edge_count g → weight_on a e ≡ flow e
