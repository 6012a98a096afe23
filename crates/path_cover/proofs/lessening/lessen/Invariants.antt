use Rattle.std.proofs.Common.{slice_index}
use Rattle.dag_net.specs.Marks.{is_set}
use Rattle.path_cover.specs.Carrying.{arriving}
use Rattle.path_cover.proofs.LessFlow.{Lessens}
use Rattle.path_cover.proofs.lessening.lessen.Given as goal

abbrev pub invariant-loop-search : goal.invariant-loop-search
invariant-loop-search l = Lessens l.net (is_set l.needed) (slice_index l.fn.flow) (slice_index l.flow) l.search

abbrev pub decreases-loop-search : goal.decreases-loop-search
decreases-loop-search l = arriving l.net (slice_index l.flow)
