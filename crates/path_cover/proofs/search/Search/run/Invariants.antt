use Rattle.std.proofs.Common.{◌-◌, slice_index}
use Rattle.dag_net.specs.Marks.{is_set}
use Rattle.path_cover.proofs.Searching.{Runs}
use Rattle.path_cover.proofs.search.Search.run.Given as goal

abbrev pub invariant-loop-k : goal.invariant-loop-k
invariant-loop-k l = Runs l.net (is_set l.needed) (slice_index l.flow) l.self.entries.items l.self.marked.items l.k

abbrev pub decreases-loop-k : goal.decreases-loop-k
decreases-loop-k l = l.net.vertices - l.k
