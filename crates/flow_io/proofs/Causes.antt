-- Laws on counts of faults over several calls.
use Rattle.std.specs.Prelude.{ℕ, ◌≤◌}
use Rattle.std.proofs.Common.{arith}
use Rattle.flow_io.specs.Outside.{Rose}

-- a count that rose in a later call rose since before
pub Rose-before : (a b c : ℕ) → a ≤ b → Rose b c → Rose a c
Rose-before a b c later rose = omega (arith, later, rose)
