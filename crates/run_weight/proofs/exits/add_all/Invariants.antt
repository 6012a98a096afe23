use Rattle.std.proofs.Common.{◌≡◌, ◌++◌, take}
use Rattle.run_weight.proofs.exits.add_all.Given as goal

abbrev pub invariant-loop-e : goal.invariant-loop-e
invariant-loop-e l = l.path ≡ l.initial.path ++ take l.e-index l.edges
