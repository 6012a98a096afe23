use Rattle.std.proofs.Common.{◌≡◌}
use Rattle.decomposition.specs.Held.{box_paths}
use Rattle.refute_tree.specs.OneBox.{place_of}
use Rattle.refute_tree.proofs.answer.first_paths.Given as goal

-- the entries of the slots so far
abbrev pub invariant-loop-k : goal.invariant-loop-k
invariant-loop-k l = l.answer ≡ box_paths (place_of l.one).box l.k
