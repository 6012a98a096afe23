use Rattle.decomposition.specs.Graph.{tail}
use Rattle.decomposition.specs.Reach.{reaches}
use Rattle.refute_tree.proofs.SumsWeights.{ChangesBelow}
use Rattle.refute_tree.proofs.sums.change_ahead.Given as goal

abbrev pub invariant-loop-e : goal.invariant-loop-e
invariant-loop-e l = ChangesBelow (λ e. reaches l.net l.from (tail l.net e)) l.less l.more l.e l.fn.weights l.weights
