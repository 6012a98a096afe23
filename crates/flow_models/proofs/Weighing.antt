-- The weight on an edge, entry by entry.
use Rattle.std.proofs.Common.{◌≡◌, ℕ, ◌+◌, ◌<◌, List, [], length, take, cond, arith}
use Rattle.std.proofs.lemmas.List.Sums.{sum_by_more}
use Rattle.decomposition.specs.Graph.{has_edge}
use Rattle.decomposition.specs.Answer.{entry_at, weight_on}
use Rattle.decomposition.proofs.Merging.{weight_on-where}

-- one entry more
pub weight_on_more : (answer : List (List ℕ × ℕ)) (e i : ℕ) → i < length answer → weight_on (take (i + 1) answer) e ≡ weight_on (take i answer) e + cond (has_edge (entry_at answer i).0 e) (entry_at answer i).1 0
weight_on_more answer e i h =
    omega (arith, weight_on-where (take (i + 1) answer) e, weight_on-where (take i answer) e, sum_by_more (λ (entry : List ℕ × ℕ). cond (has_edge entry.0 e) entry.1 0) answer i ([], 0) h)
