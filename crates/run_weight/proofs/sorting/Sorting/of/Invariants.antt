use Rattle.std.proofs.Common.{take}
use Rattle.run_weight.specs.Sorting.{Sorts}
use Rattle.run_weight.proofs.sorting.Sorting.of.Given as goal

-- the entries so far are sorted
abbrev pub invariant-loop-i : goal.invariant-loop-i
invariant-loop-i l = Sorts l.net l.run (take l.i l.answer) l.sorting
