use Rattle.std.proofs.Common.{◌≡◌, ◌≤◌, ◌++◌, ℕ, List}
use Rattle.std.specs.Prelude.{All}
use Rattle.run_weight.proofs.sorting.push_all.Given as goal

abbrev pub invariant-loop-path : goal.invariant-loop-path
invariant-loop-path l = (l.answer ≡ l.initial.answer ++ l.yielded) × All (λ (entry : List ℕ × ℕ). 1 ≤ entry.1) l.path-iterator.rest.items
