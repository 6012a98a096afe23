use Rattle.std.proofs.Common.{ℕ, ◌<◌}
use Rattle.slack_terms.specs.Answers.{CoversError, weighted}
use Rattle.path_slack.proofs.fitting.covers_errors.Given as goal

-- the errors of the edges so far are covered
abbrev pub invariant-loop-e : goal.invariant-loop-e
invariant-loop-e l = (d : ℕ) → d < l.e → CoversError (weighted l.net l.weights) l.paths d
