-- Paths with weights and slacks, and when they explain the weights of a graph.
use Rattle.std.specs.Prelude.{◌≡◌, ℕ, ◌+◌, ◌≤◌, ◌<◌, ◌&&◌, nat_le, List, [], map, length, sum_by, slice_index, slice_index_or, IsTrue}
use Rattle.std.specs.Int.{abs_diff}
use Rattle.std.specs.List.{list_all}
use Rattle.decomposition.specs.Graph.{Graph, IsNet, edge_count, is_path}
use Rattle.decomposition.specs.Answer.{weight_on}
use Rattle.slack_terms.specs.declared.slack_path.SlackPath.{SlackPath}

-- a graph with a weight on each edge
pub record Weighted : Type 0 where
  pub graph : Graph
  pub weights : List ℕ

-- the graph with these weights
abbrev pub weighted : Graph → List ℕ → Weighted
weighted g weights = record { graph = g; weights = weights }

-- the weight of an edge
abbrev pub weight_at : Weighted → ℕ → ℕ
weight_at w e = slice_index w.weights e

-- a net with one weight for each edge
pub record IsWeightedNet (w : Weighted) : Type 0 where
  pub net : IsNet w.graph
  pub one_each : length w.weights ≡ edge_count w.graph

-- the entry of a list at a place; past its end stands an entry of weight 0 and slack 0
abbrev pub entry_at : List SlackPath → ℕ → SlackPath
entry_at a k = slice_index_or a k (record { path = []; weight = 0; slack = 0 })

-- the paths of a list, each with its weight
abbrev pub weights_of : List SlackPath → List (List ℕ × ℕ)
weights_of a = map (λ entry. (entry.path, entry.weight)) a

-- the paths of a list, each with its slack
abbrev pub slacks_of : List SlackPath → List (List ℕ × ℕ)
slacks_of a = map (λ entry. (entry.path, entry.slack)) a

-- a slack answer: paths of the graph, each with a weight and a slack that are not both 0
abbrev pub IsSlackAnswer : Graph → List SlackPath → Type 0
IsSlackAnswer g a = IsTrue (list_all (λ entry. is_path g entry.path && nat_le 1 (entry.weight + entry.slack)) a)

-- the slacks cover the error of an edge: the weights of the paths through it are no further from its weight than their slacks together
abbrev pub CoversError : Weighted → List SlackPath → ℕ → Type 0
CoversError w a e = abs_diff (weight_on (weights_of a) e) (weight_at w e) ≤ weight_on (slacks_of a) e

-- an answer fits: its slacks cover the error of each edge
pub record Fits (w : Weighted) (a : List SlackPath) : Type 0 where
  pub answer : IsSlackAnswer w.graph a
  pub covers : (e : ℕ) → e < edge_count w.graph → CoversError w a e

-- the cost of an answer: all its slacks together
abbrev pub cost : List SlackPath → ℕ
cost a = sum_by (λ entry. entry.slack) a

-- an answer that fits, with at most k entries
pub record FitsWithin (w : Weighted) (k : ℕ) (a : List SlackPath) : Type 0 where
  pub fits : Fits w a
  pub few : length a ≤ k

-- an answer is optimal for k: it fits with at most k entries, and none that does costs less
pub record IsOptimal (w : Weighted) (k : ℕ) (a : List SlackPath) : Type 0 where
  pub fits : FitsWithin w k a
  pub least : (b : List SlackPath) → FitsWithin w k b → cost a ≤ cost b

-- nothing fits with at most k entries
abbrev pub IsInfeasible : Weighted → ℕ → Type 0
IsInfeasible w k = (a : List SlackPath) → FitsWithin w k a → ⊥

-- every answer that fits with at most k entries costs at least so much
abbrev pub IsLowerBound : Weighted → ℕ → ℕ → Type 0
IsLowerBound w k n = (a : List SlackPath) → FitsWithin w k a → n ≤ cost a
