use Rattle.std.proofs.Common.{ℕ, List, map}
use Rattle.std.specs.Borrow.{Bor}
use Rattle.graph_text.proofs.Linking.{IsRunUpTo}
use Rattle.graph_text.proofs.constraints.run_between.Given as goal

abbrev pub invariant-loop-i : goal.invariant-loop-i
invariant-loop-i l = IsRunUpTo l.labels.names l.labels.edges (map (λ (name : Bor (List ℕ)). name.now) l.names) l.i l.run
