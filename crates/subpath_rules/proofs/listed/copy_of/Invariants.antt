use Rattle.std.proofs.Common.{◌≡◌, take}
use Rattle.subpath_rules.proofs.listed.copy_of.Given as goal

abbrev pub invariant-loop-e : goal.invariant-loop-e
invariant-loop-e l = l.copy ≡ take l.e-index l.run
