-- What the solver may be asked.
use Rattle.std.specs.Prelude.{◌≡◌, ℕ, ◌≤◌, true, length, IsTrue}
use Rattle.decomposition.specs.declared.Mode.TheVariants.{Exact}
use Rattle.decomposition.specs.Instance.{greatest_hi}
use Rattle.flow_models.specs.declared.problem.Problem.{Problem}
use Rattle.report_terms.specs.NetFacts.{is_mode}
use Rattle.flow_solver.specs.declared.asked.Asked.{Asked}

-- the largest number of tokens of a search
abbrev pub most_nodes : ℕ
most_nodes = 1000000

-- the most runs that must be covered
abbrev pub most_rules : ℕ
most_rules = 256

-- What may be asked: a model, a number of tokens in its range, and safe runs in the exact model alone.
pub record MayBeAsked (asked : Asked) : Type 0 where
  pub least : 1 ≤ asked.nodes
  pub most : asked.nodes ≤ most_nodes
  pub mode : IsTrue (is_mode asked.mode)
  pub safe : asked.safe ≡ true → asked.mode ≡ Exact

-- What each search stands on: a number of tokens in its range, the greatest upper bound kept with the problem, and few runs that must be covered.
pub record MaySearch (nodes : ℕ) (p : Problem) : Type 0 where
  pub least : 1 ≤ nodes
  pub most : nodes ≤ most_nodes
  pub cap : p.cap ≡ greatest_hi p.ranges
  pub few_rules : length p.rules ≤ most_rules
