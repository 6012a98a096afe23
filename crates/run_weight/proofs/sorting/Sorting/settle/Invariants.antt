use Rattle.std.proofs.Common.{◌≡◌, ℕ}
use Rattle.run_weight.specs.Sorting.{IsSorted, weight_sorted, turns_left}
use Rattle.run_weight.proofs.sorting.Sorting.settle.Given as goal

abbrev pub invariant-loop-path : goal.invariant-loop-path
invariant-loop-path l = IsSorted l.net l.run l.places l.self × ((e : ℕ) → weight_sorted l.self e ≡ weight_sorted l.initial.self e)

abbrev pub decreases-loop-path : goal.decreases-loop-path
decreases-loop-path l = turns_left l.self
