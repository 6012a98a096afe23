use Rattle.std.proofs.Common.{◌≡◌, take}
use Rattle.refute_tree.proofs.answer.spell.Given as goal

abbrev pub invariant-loop-e : goal.invariant-loop-e
invariant-loop-e l = l.ids ≡ take l.e-index l.e-items
