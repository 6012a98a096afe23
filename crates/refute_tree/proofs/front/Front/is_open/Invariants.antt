use Rattle.std.proofs.Common.{◌≡◌, ◌<◌, ℕ, false, nat_lt}
use Rattle.decomposition.specs.Boxes.{lower_at, upper_at}
use Rattle.refute_tree.specs.Front.{first_of, is_unfinished}
use Rattle.refute_tree.proofs.front.Front.is_open.Given as goal

-- no slot so far may be split or go on
abbrev pub invariant-loop-slot : goal.invariant-loop-slot
invariant-loop-slot l =
    (k : ℕ) → k < l.slot → (nat_lt (lower_at (first_of l.self.boxes) k) (upper_at (first_of l.self.boxes) k) ≡ false) × (is_unfinished l.self.instance.graph (first_of l.self.boxes) k ≡ false)
