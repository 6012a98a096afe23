use Rattle.std.proofs.Common.{◌≡◌, ℕ, true, eqb, length}
use Rattle.std.specs.List.{IsDistinct}
use Rattle.decomposition.specs.Graph.{has_edge}
use Rattle.link_cells.specs.Cells.{IsLive}
use Rattle.link_cells.specs.Links.{walk_of, walk_to}
use Rattle.refute_tree.proofs.SumsAlong.{ChangesButFor}
use Rattle.refute_tree.proofs.sums.change_along.Given as goal

abbrev pub invariant-loop-at : goal.invariant-loop-at
invariant-loop-at l = record {
  live : IsLive (length l.links.links) l.at;
  once : IsDistinct eqb (walk_to l.links.links l.at);
  on : (e : ℕ) → has_edge (walk_to l.links.links l.at) e ≡ true → has_edge (walk_of l.links.links l.slot) e ≡ true;
  changed : ChangesButFor (walk_to l.links.links l.at) (walk_of l.links.links l.slot) l.less l.more l.fn.weights l.weights;
}

abbrev pub decreases-loop-at : goal.decreases-loop-at
decreases-loop-at l = length (walk_to l.links.links l.at)
