use Rattle.std.proofs.Common.{◌≡◌, length, slice_index}
use Rattle.std.specs.Prelude.{pos, ◌-ℤ◌}
use borrow.Author.Differences.{up}
use Rattle.error_flow.specs.Certificate.{level_at, bound, AreAllowed}
use Rattle.error_flow.specs.Tight.{total_of}
use Rattle.error_flow.proofs.ascent.climb.Given as goal

abbrev pub invariant-loop-levels : goal.invariant-loop-levels
invariant-loop-levels l = (length l.levels.items ≡ l.net.vertices) × AreAllowed l.net (level_at l.levels.items)

-- how far the bound is below the sum of the weights
abbrev pub decreases-loop-levels : goal.decreases-loop-levels
decreases-loop-levels l = up (pos (total_of l.net (slice_index l.weights)) -ℤ bound l.net (slice_index l.weights) (level_at l.levels.items))
