-- Sums of the checker, edge by edge.
use Rattle.std.proofs.Common.{◌≡◌, ℕ, ◌*◌, ◌≤◌, ◌==◌, cond}
use Rattle.decomposition.specs.Answer.{sum_below}

-- what the first n edges carry that have the vertex as this end, at most 2^64 each
pub record IsSumSoFar (end flow : ℕ → ℕ) (v n sum : ℕ) : Type 0 where
  pub is : sum ≡ sum_below (λ e. cond (end e == v) (flow e) 0) n
  pub little : sum ≤ n * 18446744073709551615
