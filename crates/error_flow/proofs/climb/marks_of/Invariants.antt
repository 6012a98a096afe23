use Rattle.std.proofs.Common.{take}
use Rattle.error_flow.specs.Climb.{AreMarksOf}
use Rattle.error_flow.proofs.climb.marks_of.Given as goal

abbrev pub invariant-loop-v : goal.invariant-loop-v
invariant-loop-v l = AreMarksOf l.net.vertices (take l.v-index l.vertices) l.marks.items
