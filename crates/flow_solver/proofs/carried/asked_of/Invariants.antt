use Rattle.std.proofs.Common.{◌≡◌, vec_len}
use Rattle.flow_solver.proofs.carried.asked_of.Given as goal

abbrev pub invariant-loop-e : goal.invariant-loop-e
invariant-loop-e l = vec_len l.asked ≡ l.e
