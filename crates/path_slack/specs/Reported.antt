-- The paths of a report.
use Rattle.std.specs.Prelude.{◌≡◌, ◌≢◌, ℕ, ◌≤◌, Bool, ◌&&◌, ◌||◌, ◌==◌, nat_lt, List, length, AllPairs, IsTrue}
use Rattle.decomposition.specs.Graph.{is_list_before}
use Rattle.decomposition.specs.Answer.{is_ordered}
use Rattle.slack_terms.specs.declared.slack_path.SlackPath.{SlackPath}
use Rattle.slack_terms.specs.Answers.{Weighted, Fits, cost}

-- whether an entry stands before another in a report: it has the greater weight, or the same weight and the greater slack, or both the
-- same and the earlier edge list
abbrev pub comes_before : SlackPath → SlackPath → Bool
comes_before a b =
    nat_lt b.weight a.weight
    || ((a.weight == b.weight) && (nat_lt b.slack a.slack || ((a.slack == b.slack) && is_list_before a.path b.path)))

-- the paths of a report with an upper bound: they fit, are at most k, hold no path twice, cost the bound, and stand in order
pub record IsReported (w : Weighted) (k upper : ℕ) (paths : List SlackPath) : Type 0 where
  pub fits : Fits w paths
  pub few : length paths ≤ k
  pub once : AllPairs (λ a b. a.path ≢ b.path) paths
  pub costs : cost paths ≡ upper
  pub ordered : IsTrue (is_ordered comes_before paths)
