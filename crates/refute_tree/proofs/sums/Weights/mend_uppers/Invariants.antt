use Rattle.std.proofs.Common.{◌-◌, ◌^◌, ◌≡◌, ◌<◌, ◌≤◌, ℕ, min, length, slice_index}
use Rattle.decomposition.specs.Boxes.{slot_at, upper_at}
use Rattle.refute_tree.specs.OneBox.{box_of}
use Rattle.refute_tree.specs.Sums.{AreTotals}
use Rattle.refute_tree.proofs.sums.Weights.mend_uppers.Given as goal

-- the least hi so far gives the next upper bound
abbrev pub invariant-loop-k : goal.invariant-loop-k
invariant-loop-k l = record {
  least : l.k < length l.ranges → (slot_at (box_of l.ranges l.links.links) l.k).hi ≤ 2 ^ 64 - 1
      → min l.least (slot_at (box_of l.ranges l.links.links) l.k).hi ≡ upper_at (box_of l.ranges l.links.links) l.k;
  done : (j : ℕ) → j < l.k → slice_index l.self.uppers.items j ≡ upper_at (box_of l.ranges l.links.links) j;
  totals : AreTotals l.net l.links l.self;
}
