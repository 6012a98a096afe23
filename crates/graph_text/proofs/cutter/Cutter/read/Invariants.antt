use Rattle.std.proofs.Common.{◌-◌, length}
use Rattle.graph_text.proofs.Holding.{IsPartlyRead}
use Rattle.graph_text.proofs.cutter.Cutter.read.Given as goal

abbrev pub invariant-loop-taken : goal.invariant-loop-taken
invariant-loop-taken l = IsPartlyRead l.fn.self l.self l.piece l.taken

abbrev pub decreases-loop-taken : goal.decreases-loop-taken
decreases-loop-taken l = length l.piece - l.taken
