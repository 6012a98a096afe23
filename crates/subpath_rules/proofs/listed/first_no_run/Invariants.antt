use Rattle.std.proofs.Common.{IsTrue, take}
use Rattle.std.specs.List.{list_all}
use Rattle.decomposition.specs.Graph.{is_run}
use Rattle.subpath_rules.proofs.listed.first_no_run.Given as goal

abbrev pub invariant-loop-i : goal.invariant-loop-i
invariant-loop-i l = IsTrue (list_all (is_run l.net) (take l.i l.listed))
