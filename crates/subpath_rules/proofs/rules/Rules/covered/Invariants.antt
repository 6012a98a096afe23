use Rattle.std.proofs.Common.{take, IsTrue}
use Rattle.std.specs.List.{list_any, list_all}
use Rattle.decomposition.specs.Graph.{contains_run}
use Rattle.subpath_rules.proofs.rules.Rules.covered.Given as goal

abbrev pub invariant-loop-i : goal.invariant-loop-i
invariant-loop-i l = IsTrue (list_all (λ r. list_any (λ entry. contains_run entry.0 r) l.answer) (take l.i l.self))
