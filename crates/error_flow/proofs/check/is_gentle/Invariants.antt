use Rattle.std.proofs.Common.{ℕ, ◌<◌}
use Rattle.std.specs.Prelude.{negsuc, ◌≤ℤ◌}
use Rattle.error_flow.specs.Certificate.{level_at, rise}
use Rattle.error_flow.proofs.check.is_gentle.Given as goal

-- no edge so far falls by more than 1
abbrev pub invariant-loop-e : goal.invariant-loop-e
invariant-loop-e l = (d : ℕ) → d < l.e → negsuc 0 ≤ℤ rise l.net (level_at l.levels) d
