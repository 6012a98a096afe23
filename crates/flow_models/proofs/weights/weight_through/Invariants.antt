use Rattle.std.proofs.Common.{◌≡◌, ◌≤◌, ◌*◌, take}
use Rattle.decomposition.specs.Answer.{weight_on}
use Rattle.flow_models.proofs.weights.weight_through.Given as goal

abbrev pub invariant-loop-i : goal.invariant-loop-i
invariant-loop-i l = (l.sum ≡ weight_on (take l.i l.answer) l.e) × (l.sum ≤ 18446744073709551615 * l.i)
