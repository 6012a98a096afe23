use Rattle.std.proofs.Common.{slice_index}
use Rattle.decomposition.proofs.FewPaths.{positive_count}
use Rattle.greedy_paths.proofs.Decomposing.{LeavesRest}
use Rattle.greedy_paths.proofs.greedy.add_widest.Given as goal

abbrev pub invariant-loop-answer : goal.invariant-loop-answer
invariant-loop-answer l = LeavesRest l.net l.fn.rest.items l.fn.answer l.answer l.rest.items

abbrev pub decreases-loop-answer : goal.decreases-loop-answer
decreases-loop-answer l = positive_count l.net (slice_index l.rest.items)
