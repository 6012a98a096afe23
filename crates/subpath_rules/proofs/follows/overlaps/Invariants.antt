use Rattle.std.proofs.Common.{ℕ, ◌<◌, IsTrue, drop}
use Rattle.subpath_rules.specs.Follows.{agree}
use Rattle.subpath_rules.proofs.follows.overlaps.Given as goal

abbrev pub invariant-loop-k : goal.invariant-loop-k
invariant-loop-k l = (k : ℕ) → k < l.k → ¬ IsTrue (agree (drop k l.walk) l.run)
