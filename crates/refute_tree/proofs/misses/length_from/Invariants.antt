use Rattle.std.proofs.Common.{◌≡◌, ◌≢◌, ℕ, ◌+◌, ◌<◌, ◌≤◌, take, length, slice_index}
use Rattle.link_cells.specs.Cells.{IsLive}
use Rattle.link_cells.specs.Links.{walk_of, walk_to}
use Rattle.refute_tree.proofs.misses.length_from.Given as goal

-- the edges passed are the last ones of the walk, and none of them is the edge looked for
abbrev pub invariant-loop-at : goal.invariant-loop-at
invariant-loop-at l = record {
  live : IsLive (length l.links.links) l.at;
  counted : l.count + length (walk_to l.links.links l.at) ≡ length (walk_of l.links.links l.slot);
  left : walk_to l.links.links l.at ≡ take (length (walk_to l.links.links l.at)) (walk_of l.links.links l.slot);
  passed : (k : ℕ) → length (walk_to l.links.links l.at) ≤ k → k < length (walk_of l.links.links l.slot) → slice_index (walk_of l.links.links l.slot) k ≢ l.first;
}

abbrev pub decreases-loop-at : goal.decreases-loop-at
decreases-loop-at l = length (walk_to l.links.links l.at)
