use Rattle.std.proofs.Common.{◌≡◌, true, ◌+◌, ◌≤◌, take, drop, length}
use Rattle.subpath_rules.specs.Follows.{agree}
use Rattle.link_cells.specs.Cells.{IsLive}
use Rattle.link_cells.specs.Links.{walk_of, walk_to}
use Rattle.refute_tree.proofs.misses.ends_like.Given as goal

-- the edges passed are the last ones of the walk, and agree with the run from their place on
abbrev pub invariant-loop-left : goal.invariant-loop-left
invariant-loop-left l = record {
  live : IsLive (length l.links.links) l.at;
  within : l.left ≤ l.count;
  counted : length (walk_to l.links.links l.at) + l.count ≡ length (walk_of l.links.links l.slot) + l.left;
  rest : walk_to l.links.links l.at ≡ take (length (walk_to l.links.links l.at)) (walk_of l.links.links l.slot);
  same : agree (drop (length (walk_to l.links.links l.at)) (walk_of l.links.links l.slot)) (drop l.left l.run) ≡ true;
}

abbrev pub decreases-loop-left : goal.decreases-loop-left
decreases-loop-left l = l.left
