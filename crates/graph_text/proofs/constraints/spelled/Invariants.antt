use Rattle.std.proofs.Common.{◌≡◌, ℕ, List, map, take}
use Rattle.std.specs.Borrow.{Bor}
use Rattle.graph_text.specs.Constraints.{spelled}
use Rattle.graph_text.proofs.constraints.spelled.Given as goal

abbrev pub invariant-loop-name : goal.invariant-loop-name
invariant-loop-name l = l.text.items ≡ spelled (map (λ (name : Bor (List ℕ)). name.now) (take l.name-index l.names))
