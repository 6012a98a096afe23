-- Rules that rise below the number of all fit a report.
use Rattle.std.proofs.Common.{arith}
use Rattle.flow_solver.proofs.Rising.{rising_rules}
use Rattle.flow_solver.proofs.crowds.rules_apart.Goals as goal

pub returns-clause-rising : goal.returns-clause-rising
returns-clause-rising c =
    rising_rules c.loop-rule.rule c.loop-rule.apart (omega arith) (omega (arith, c.len.ensures)) c.loop-rule.invariant.rises
