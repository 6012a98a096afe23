use Rattle.std.proofs.Common.{slice_index}
use Rattle.dag_net.specs.Marks.{is_set}
use Rattle.path_cover.proofs.LessFlow.{TakesUnit}
use Rattle.path_cover.proofs.lessening.take_unit.Given as goal

abbrev pub invariant-loop-e : goal.invariant-loop-e
invariant-loop-e l = TakesUnit l.net (is_set l.needed) (slice_index l.fn.flow) l.search.entries.items l.last (slice_index l.flow) l.at

abbrev pub decreases-loop-e : goal.decreases-loop-e
decreases-loop-e l = l.at
