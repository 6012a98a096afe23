use Rattle.std.proofs.Common.{ℕ, ◌<◌, ◌≤◌, slice_index}
use Rattle.link_cells.specs.Links.{walk_of}
use Rattle.refute_tree.specs.Misses.{LeadsTo}
use Rattle.refute_tree.proofs.misses.is_ahead.Given as goal

-- no slot from here on that may have weight leads to the run
abbrev pub invariant-loop-k : goal.invariant-loop-k
invariant-loop-k l = (j : ℕ) → l.k ≤ j → j < l.one.links.slots → 1 ≤ slice_index l.sums.uppers.items j → ¬ LeadsTo l.net (walk_of l.one.links.links j) l.run
