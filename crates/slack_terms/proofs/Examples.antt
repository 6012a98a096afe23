-- The worked example, by computation.
use Rattle.std.proofs.Common.{ℕ, zero, suc, ◌<◌, refl, arith, [], ◌∷◌, slice_index}
use Rattle.decomposition.specs.Graph.{IsNet, edge_count}
use Rattle.decomposition.proofs.Tests.{IsNet-from_tests}
use Rattle.slack_terms.specs.Answers.{CoversError}
use Rattle.slack_terms.specs.Worked.{WorkedExamples, unbalanced, unbalanced_answer, unbalanced_tokens}
use Rattle.slack_terms.proofs.Root.{trees_bound}

unbalanced_net : IsNet unbalanced.graph
unbalanced_net = IsNet-from_tests unbalanced.graph (λ v. slice_index (0 ∷ 1 ∷ 2 ∷ []) v) refl refl refl

covers : (e : ℕ) → e < edge_count unbalanced.graph → CoversError unbalanced unbalanced_answer e
covers zero inside = omega arith
covers (suc zero) inside = omega arith
covers (suc (suc e)) inside = absurd (omega arith)

pub worked_examples : WorkedExamples
worked_examples = record {
  refuted = refl;
  pending = refl;
  one_more = refl;
  short_too_early = refl;
  no_edge = refl;
  no_cut = refl;
  halved = refl;
  no_paths = refl;
  best = record {
    fits = record { fits = record { answer = refl; covers = covers }; few = omega arith };
    least = λ b fits. trees_bound unbalanced 1 1 unbalanced_tokens unbalanced_net (omega arith) refl b fits;
  };
}
