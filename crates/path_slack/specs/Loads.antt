-- What paths put on the edges of a graph.
use Rattle.std.specs.Prelude.{◌≡◌, ℕ, ◌<◌, List, length, slice_index}
use Rattle.decomposition.specs.Graph.{Graph, edge_count}
use Rattle.decomposition.specs.Answer.{weight_on}
use Rattle.slack_terms.specs.declared.slack_path.SlackPath.{SlackPath}
use Rattle.slack_terms.specs.Answers.{weights_of, slacks_of}
use Rattle.path_slack.specs.declared.loads.Loads.{Loads}

-- for each edge what the paths through it put on it
pub record AreSums (g : Graph) (a : List (List ℕ × ℕ)) (sums : List ℕ) : Type 0 where
  pub count : length sums ≡ edge_count g
  pub each : (e : ℕ) → e < edge_count g → slice_index sums e ≡ weight_on a e

-- for each edge the weights and the slacks of the paths through it
pub record AreLoads (g : Graph) (a : List SlackPath) (loads : Loads) : Type 0 where
  pub weights : AreSums g (weights_of a) loads.weights.items
  pub slacks : AreSums g (slacks_of a) loads.slacks.items
