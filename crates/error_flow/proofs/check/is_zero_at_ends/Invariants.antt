use Rattle.std.proofs.Common.{◌≡◌, ℕ, ◌<◌, ◌||◌}
use Rattle.std.specs.Prelude.{IsTrue, pos}
use Rattle.decomposition.specs.Graph.{is_source, is_sink}
use Rattle.error_flow.specs.Certificate.{level_at}
use Rattle.error_flow.proofs.check.is_zero_at_ends.Given as goal

-- the levels of the sources and sinks so far are 0
abbrev pub invariant-loop-v : goal.invariant-loop-v
invariant-loop-v l = (u : ℕ) → u < l.v → IsTrue (is_source l.net u || is_sink l.net u) → level_at l.levels u ≡ pos 0
