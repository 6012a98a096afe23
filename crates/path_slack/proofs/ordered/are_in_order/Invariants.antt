use Rattle.std.proofs.Common.{◌≡◌, ℕ, suc, ◌<◌, true}
use Rattle.slack_terms.specs.Answers.{entry_at}
use Rattle.path_slack.specs.Reported.{comes_before}
use Rattle.path_slack.proofs.ordered.are_in_order.Given as goal

-- each entry so far stands before the next one
abbrev pub invariant-loop-i : goal.invariant-loop-i
invariant-loop-i l = (k : ℕ) → suc k < l.i → comes_before (entry_at l.paths k) (entry_at l.paths (suc k)) ≡ true
