use Rattle.std.proofs.Common.{ℕ, List, ap, arith}
use Rattle.decomposition.specs.Answer.{weight_on}
use Rattle.run_weight.proofs.Weights.{weight_on-push}
use Rattle.run_weight.proofs.sorting.Sorting.settle.Goals as goal

pub loop-path-preserved : goal.loop-path-preserved
loop-path-preserved c = (
  c.in_ok-settle_entry.ensures.sorted,
  λ e. omega (
    arith,
    c.loop-path.invariant.1 e,
    c.in_ok-settle_entry.ensures.weights e,
    ap (λ (l : List (List ℕ × ℕ)). weight_on l e) c.in-Some.ensures.items,
    weight_on-push c.pop.new.self.items c.in-Some.path c.in-Some.weight e,
  ),
)
