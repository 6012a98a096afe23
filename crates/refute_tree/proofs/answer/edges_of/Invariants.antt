use Rattle.std.proofs.Common.{◌≡◌, ◌++◌, length, reverse}
use Rattle.link_cells.specs.Cells.{IsLive}
use Rattle.link_cells.specs.Links.{walk_of, walk_to}
use Rattle.refute_tree.proofs.answer.edges_of.Given as goal

-- the list that is left, and then the edges passed, are the walk
abbrev pub invariant-loop-at : goal.invariant-loop-at
invariant-loop-at l = record { live : IsLive (length l.links.links) l.at; passed : walk_to l.links.links l.at ++ reverse l.edges.items ≡ walk_of l.links.links l.slot }

abbrev pub decreases-loop-at : goal.decreases-loop-at
decreases-loop-at l = length (walk_to l.links.links l.at)
