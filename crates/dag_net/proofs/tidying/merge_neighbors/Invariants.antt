use Rattle.std.proofs.Common.{◌<◌, ◌-◌, ◌++◌, ◌≡◌, length}
use Rattle.decomposition.specs.Answer.{entry_at}
use Rattle.dag_net.specs.Merge.{Merges, AreSorted, AreRising}
use Rattle.dag_net.proofs.tidying.merge_neighbors.Given as goal

-- the entries so far are merged, and the last path is theirs
abbrev pub invariant-loop-path : goal.invariant-loop-path
invariant-loop-path l =
    Merges l.yielded l.merged.items × AreRising l.merged.items × AreSorted (l.yielded ++ l.path-iterator.rest.items)
    × (0 < length l.merged.items → (0 < length l.yielded) × ((entry_at l.merged.items (length l.merged.items - 1)).0 ≡ (entry_at l.yielded (length l.yielded - 1)).0))
