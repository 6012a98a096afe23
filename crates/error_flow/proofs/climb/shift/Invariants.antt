use Rattle.std.proofs.Common.{◌≡◌, ℕ, ◌<◌, ◌≤◌, ◌&&◌, cond}
use Rattle.std.specs.Prelude.{pos, ◌+ℤ◌}
use Rattle.decomposition.specs.Graph.{is_inner}
use Rattle.dag_net.specs.Marks.{is_set}
use Rattle.error_flow.specs.Certificate.{level_at}
use Rattle.error_flow.proofs.climb.shift.Given as goal

-- the levels so far are changed, and the others are not
abbrev pub invariant-loop-v : goal.invariant-loop-v
invariant-loop-v l =
    ((u : ℕ) → u < l.v → level_at l.levels u ≡ level_at l.initial.levels u +ℤ cond (is_set l.marks u && is_inner l.net u) l.by (pos 0))
    × ((u : ℕ) → l.v ≤ u → level_at l.levels u ≡ level_at l.initial.levels u)
