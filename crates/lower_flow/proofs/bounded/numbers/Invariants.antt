use Rattle.std.proofs.Common.{◌≡◌, take}
use Rattle.lower_flow.proofs.bounded.numbers.Given as goal

abbrev pub invariant-loop-units : goal.invariant-loop-units
invariant-loop-units l = l.numbers ≡ take l.units-index l.flow
