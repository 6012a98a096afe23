use Rattle.std.proofs.Common.{length}
use Rattle.node_weights.proofs.Refusals.{IsReadTo}
use Rattle.node_weights.proofs.reader.read_lines.Given as goal

abbrev pub invariant-loop-rest : goal.invariant-loop-rest
invariant-loop-rest l = IsReadTo l.fn.text l.rest l.number l.draft

abbrev pub decreases-loop-rest : goal.decreases-loop-rest
decreases-loop-rest l = length l.rest
