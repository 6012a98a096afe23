use Rattle.std.proofs.Common.{take}
use Rattle.slack_terms.specs.Answers.{IsSlackAnswer}
use Rattle.path_slack.proofs.fitting.is_slack_answer.Given as goal

-- the entries so far are paths with weight or slack
abbrev pub invariant-loop-i : goal.invariant-loop-i
invariant-loop-i l = IsSlackAnswer l.net (take l.i l.paths)
