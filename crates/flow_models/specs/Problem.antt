-- The instance that a problem stands for.
use Rattle.decomposition.specs.Graph.{Graph}
use Rattle.decomposition.specs.Instance.{Instance}
use Rattle.flow_models.specs.declared.problem.Problem.{Problem}

-- a problem on a graph
abbrev pub instance : Graph → Problem → Instance
instance g p = record { graph = g; ranges = p.ranges; rules = p.rules }
