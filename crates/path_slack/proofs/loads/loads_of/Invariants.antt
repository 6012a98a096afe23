use Rattle.path_slack.proofs.Sums.{AreSumsUp}
use Rattle.path_slack.proofs.loads.loads_of.Given as goal
use Rattle.slack_terms.specs.Answers.{weights_of, slacks_of}

-- the weights and the slacks of the entries so far
abbrev pub invariant-loop-i : goal.invariant-loop-i
invariant-loop-i l = AreSumsUp l.net (weights_of l.paths) l.i l.weights.items × AreSumsUp l.net (slacks_of l.paths) l.i l.slacks.items
