use Rattle.std.proofs.Common.{ℕ, ◌<◌, slice_index}
use Rattle.greedy_paths.specs.Widest.{IsWideFromSource}
use Rattle.greedy_paths.proofs.widest.first_wide.Given as goal

abbrev pub invariant-loop-e : goal.invariant-loop-e
invariant-loop-e l = (f : ℕ) → f < l.e → ¬ IsWideFromSource l.net (slice_index l.rest) l.width f
