use Rattle.std.proofs.Common.{slice_index}
use Rattle.path_cover.proofs.Depth.{depth}
use Rattle.path_cover.proofs.Sending.{Brings}
use Rattle.path_cover.proofs.carrying.bring_in.Given as goal

abbrev pub invariant-loop-e : goal.invariant-loop-e
invariant-loop-e l = Brings l.net (slice_index l.fn.flow) (slice_index l.flow) l.v l.at

abbrev pub decreases-loop-e : goal.decreases-loop-e
decreases-loop-e l = depth l.net l.at
