use Rattle.std.proofs.Common.{◌≡◌, ◌≢◌, ℕ, take}
use Rattle.std.specs.Prelude.{AllPairs}
use Rattle.std.specs.List.{list_any}
use Rattle.std.specs.BTreeSet.{contains}
use Rattle.std.specs.Ordering.{nat_cmp, ordering_then}
use Rattle.decomposition.specs.Graph.{same_ends}
use Rattle.dag_net.proofs.net.first_repeated.Given as goal

-- the edges so far are seen, and none of them twice
abbrev pub invariant-loop-e : goal.invariant-loop-e
invariant-loop-e l =
    ((q : ℕ × ℕ) → contains (λ x y. ordering_then (nat_cmp x.0 y.0) (nat_cmp x.1 y.1)) l.seen q ≡ list_any (same_ends q) (take l.e l.edges))
    × AllPairs (λ a b. a ≢ b) (take l.e l.edges)
