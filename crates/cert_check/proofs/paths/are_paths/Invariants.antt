use Rattle.std.proofs.Common.{take}
use Rattle.decomposition.specs.Answer.{IsAnswer}
use Rattle.cert_check.proofs.paths.are_paths.Given as goal

abbrev pub invariant-loop-i : goal.invariant-loop-i
invariant-loop-i l = IsAnswer l.net (take l.i l.paths)
