use Rattle.std.proofs.Common.{◌≡◌, ◌<◌, ◌≤◌, ℕ, length, slice_index}
use Rattle.decomposition.specs.Boxes.{lower_at}
use Rattle.refute_tree.specs.OneBox.{box_of}
use Rattle.refute_tree.specs.Sums.{AreTotals}
use Rattle.refute_tree.proofs.sums.Weights.mend_lowers.Given as goal

-- the greatest lo from the slot on is its lower bound
abbrev pub invariant-loop-k : goal.invariant-loop-k
invariant-loop-k l = record {
  greatest : l.greatest ≡ lower_at (box_of l.ranges l.links.links) l.k;
  done : (j : ℕ) → l.k ≤ j → j < length l.ranges → slice_index l.self.lowers.items j ≡ lower_at (box_of l.ranges l.links.links) j;
  totals : AreTotals l.net l.links l.self;
  uppers : l.self.uppers ≡ l.initial.self.uppers;
}
