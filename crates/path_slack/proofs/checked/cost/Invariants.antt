use Rattle.std.proofs.Common.{◌≡◌, ◌≤◌, ◌*◌, take}
use Rattle.slack_terms.specs.Answers.{cost}
use Rattle.path_slack.proofs.checked.cost.Given as goal

abbrev pub invariant-loop-i : goal.invariant-loop-i
invariant-loop-i l = (l.sum ≡ cost (take l.i l.paths)) × (l.sum ≤ 18446744073709551615 * l.i)
