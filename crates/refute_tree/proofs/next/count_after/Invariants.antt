use Rattle.std.proofs.Common.{length}
use Rattle.refute_tree.specs.Choices.{later_of}
use Rattle.refute_tree.proofs.NextEdges.{IsCounted}
use Rattle.refute_tree.proofs.next.count_after.Given as goal

abbrev pub invariant-loop-next : goal.invariant-loop-next
invariant-loop-next l = IsCounted l.net l.edge l.at l.count

abbrev pub decreases-loop-next : goal.decreases-loop-next
decreases-loop-next l = length (later_of l.net l.at)
