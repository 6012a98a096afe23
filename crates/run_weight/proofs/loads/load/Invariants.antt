use Rattle.std.proofs.Common.{◌≡◌, ◌≤◌, ◌*◌, take}
use Rattle.run_weight.specs.Loads.{load}
use Rattle.run_weight.proofs.loads.load.Given as goal

abbrev pub invariant-loop-i : goal.invariant-loop-i
invariant-loop-i l = (l.sum ≡ load (take l.i l.answer) l.run) × (l.sum ≤ 18446744073709551615 * l.i)
