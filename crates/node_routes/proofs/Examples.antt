-- The worked examples: by computation, and by a cut where nothing explains.
use Rattle.std.proofs.Common.{◌≡◌, ℕ, zero, suc, ◌+◌, ◌≤◌, refl, arith, cond, Bool, true, false, List, [], ◌∷◌, length}
use Rattle.decomposition.specs.declared.Side.TheVariants.{Entering}
use Rattle.decomposition.specs.Graph.{IsNet}
use Rattle.decomposition.proofs.Tests.{IsNet-from_tests}
use Rattle.decomposition.proofs.Cuts.{cuts_refute}
use Rattle.node_routes.specs.Routes.{bare, AddUp, Explains}
use Rattle.node_routes.specs.Split.{split_instance}
use Rattle.node_routes.specs.Worked.{fork, uneven, single, nothing, weightless, WorkedExamples}
use Rattle.node_routes.proofs.SplitNets.{split_graphs_are_nets}
use Rattle.node_routes.proofs.Explaining.{infeasible_is_unexplained}

-- one route is all the weight that there is
whole_weight : (b : Bool) (w x : ℕ) → cond b w 0 + 0 ≡ suc x → w ≡ suc x
whole_weight true w x h = omega arith
whole_weight false w x h = absurd (omega arith)

fork_explained : Explains fork ((0 ∷ 1 ∷ [], 3) ∷ (0 ∷ 2 ∷ [], 2) ∷ [])
fork_explained = record { answer = refl; sums = sums } where
  sums : AddUp fork ((0 ∷ 1 ∷ [], 3) ∷ (0 ∷ 2 ∷ [], 2) ∷ [])
  sums zero inside = refl
  sums (suc zero) inside = refl
  sums (suc (suc zero)) inside = refl
  sums (suc (suc (suc v))) inside = absurd (omega arith)

-- no route at all has the weight 0, and one would have the weights 3 and 2
fork_needs : (b : List (List ℕ × ℕ)) → Explains fork b → 2 ≤ length b
fork_needs [] explains = absurd (omega (arith, explains.sums 0 (omega arith)))
fork_needs (x ∷ []) explains = absurd (omega (arith, whole_weight _ x.1 2 (explains.sums 1 (omega arith)), whole_weight _ x.1 1 (explains.sums 2 (omega arith))))
fork_needs (x ∷ y ∷ rest) explains = omega arith

single_explained : Explains single ((0 ∷ [], 4) ∷ [])
single_explained = record { answer = refl; sums = sums } where
  sums : AddUp single ((0 ∷ [], 4) ∷ [])
  sums zero inside = refl
  sums (suc v) inside = absurd (omega arith)

single_needs : (b : List (List ℕ × ℕ)) → Explains single b → 1 ≤ length b
single_needs [] explains = absurd (omega (arith, explains.sums 0 (omega arith)))
single_needs (x ∷ rest) explains = omega arith

nothing_explained : Explains nothing []
nothing_explained = record { answer = refl; sums = λ v inside. absurd (omega arith) }

weightless_explained : Explains weightless []
weightless_explained = record { answer = refl; sums = sums } where
  sums : AddUp weightless []
  sums zero inside = refl
  sums (suc v) inside = absurd (omega arith)

uneven_net : IsNet (bare uneven)
uneven_net = IsNet-from_tests (bare uneven) (λ v. v) refl refl refl

pub worked_examples : WorkedExamples
worked_examples = record {
  split_edges = refl;
  split_bounds = refl;
  least_bound = refl;
  along = refl;
  back = refl;
  whole = refl;
  too_short = refl;
  begun_late = refl;
  unjoined = refl;
  alone = refl;
  empty = refl;
  unknown = refl;
  two_routes = record { explains = fork_explained; least = fork_needs };
  one_route = record { explains = single_explained; least = single_needs };
  no_vertex = record { explains = nothing_explained; least = λ b explains. omega arith };
  no_weight = record { explains = weightless_explained; least = λ b explains. omega arith };
  too_little = (infeasible_is_unexplained uneven uneven_net).0 (λ a meets. cuts_refute (split_instance uneven) Entering (1 ∷ 2 ∷ []) a (split_graphs_are_nets uneven uneven_net) (refl, omega arith) meets.0 meets.2);
}
