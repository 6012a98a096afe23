use Rattle.std.proofs.Common.{◌≡◌, take}
use Rattle.node_routes.specs.Split.{heaviest}
use Rattle.node_weights.proofs.split.heaviest.Given as goal

abbrev pub invariant-loop-weight : goal.invariant-loop-weight
invariant-loop-weight l = l.most ≡ heaviest (take l.weight-index l.weights)
