use Rattle.std.proofs.Common.{suc}
use Rattle.std.specs.Option.{option_map_or}
use Rattle.refute_tree.proofs.Missing.{ArePassed}
use Rattle.refute_tree.proofs.misses.is_on_way.Given as goal

-- the latest links of the run's first edge are passed
abbrev pub invariant-loop-at : goal.invariant-loop-at
invariant-loop-at l = ArePassed l.sums.uppers.items l.one.links.links l.run l.at

abbrev pub decreases-loop-at : goal.decreases-loop-at
decreases-loop-at l = option_map_or suc l.at 0
