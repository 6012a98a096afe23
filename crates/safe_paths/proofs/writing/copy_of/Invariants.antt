use Rattle.std.proofs.Common.{◌≡◌, take}
use Rattle.safe_paths.proofs.writing.copy_of.Given as goal

abbrev pub invariant-loop-e : goal.invariant-loop-e
invariant-loop-e l = l.copy ≡ take l.e-index l.run
