use Rattle.std.proofs.Common.{nat_le, take, IsTrue}
use Rattle.std.specs.List.{list_all}
use Rattle.flow_solver.proofs.checked.are_light.Given as goal

abbrev pub invariant-loop-i : goal.invariant-loop-i
invariant-loop-i l = IsTrue (list_all (λ entry. nat_le entry.1 l.cap) (take l.i l.answer))
