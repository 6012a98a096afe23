-- The problem of a graph stands for its instance.
use Rattle.std.proofs.Common.{◌≡◌, ◌==◌, ℕ, List, [], ◌∷◌, false, not, refl, ap, ap₂, ◌∙◌}
use Rattle.std.specs.Prelude.{filter}
use Rattle.std.specs.List.{AllByRecursion, IsDistinct}
use Rattle.std.specs.Cmp.Lexicographic.{pointwise}
use Rattle.decomposition.specs.declared.Range.{Range}
use Rattle.decomposition.specs.Instance.{Instance}
use Rattle.flow_models.specs.Problem.{instance}
use Rattle.flow_models.specs.declared.problem.Problem.{Problem}
use Rattle.graph_text.specs.Reading.{instance_of}
use Rattle.graph_text.specs.declared.block.RawGraph.{RawGraph}
use Rattle.subpath_rules.specs.Rules.{AreRulesOf, distinct_runs, same_run}

-- where no run is the same as r, none goes
all-kept : (r : List ℕ) (rs : List (List ℕ)) → AllByRecursion (λ s. same_run r s ≡ false) rs → filter (λ s. not (same_run r s)) rs ≡ rs
all-kept r [] others = refl
all-kept r (s ∷ rs) others = rw others.0 (ap (λ (xs : List (List ℕ)). s ∷ xs) (all-kept r rs others.1))

-- distinct runs are listed once each
distinct-same : (rs : List (List ℕ)) → IsDistinct (pointwise (λ d e. d == e)) rs → distinct_runs rs ≡ rs
unfolding IsDistinct
distinct-same [] once = refl
distinct-same (r ∷ rs) once =
    ap (λ (xs : List (List ℕ)). r ∷ filter (λ s. not (same_run r s)) xs) (distinct-same rs once.1) ∙ ap (λ (xs : List (List ℕ)). r ∷ xs) (all-kept r rs once.0)

pub problem_is : (graph : RawGraph) (p : Problem) → IsDistinct (pointwise (λ d e. d == e)) graph.runs → p.ranges ≡ graph.ranges → AreRulesOf graph.net graph.runs p.rules → instance graph.net p ≡ instance_of graph
problem_is graph p once ranges rules =
    let are : p.rules ≡ graph.runs = rules.rules_are ∙ distinct-same graph.runs once in
    ap₂ (λ (rs : List Range) (us : List (List ℕ)). let i : Instance = record { graph = graph.net; ranges = rs; rules = us } in i) ranges are
