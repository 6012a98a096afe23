-- What a right report of the split graph says of the graph with weights on its vertices.
use Rattle.std.proofs.Common.{◌≡◌, ℕ, List, [], ◌∷◌, Option, Some, None, refl, sym, ap, subst, ◌∙◌}
use Rattle.std.specs.Prelude.{IfSome, Result, Ok, Err, length}
use Rattle.decomposition.specs.Graph.{IsNet}
use Rattle.decomposition.specs.declared.Mode.TheVariants.{Interval}
use Rattle.decomposition.specs.Instance.{IsLowerBound}
use Rattle.flow_solver.specs.Right.{ArePathsFor}
use Rattle.flowpaths_cli.specs.Right.{BodyRight, SolvedRight}
use Rattle.graph_text.specs.Reading.{read, instance_of}
use Rattle.graph_text.specs.declared.block.RawGraph.{RawGraph}
use Rattle.node_routes.specs.Routes.{VertexGraph, bare, Explains, NeedsRoutes}
use Rattle.node_routes.specs.Split.{split_instance, routes_of}
use Rattle.node_routes.proofs.Explaining.{meeting_is_explaining, optimal_is_fewest, infeasible_is_unexplained, lower_bounds_count_routes}
use Rattle.node_weights.specs.NodeText.{NodeLists}
use Rattle.node_weights.specs.Kept.{IsNodeGraph}
use Rattle.node_weights.specs.SplitText.{vertex_graph}
use Rattle.node_weights.specs.SplitLaws.{split_block}
use Rattle.node_weights.proofs.SplitReads.{split_blocks_are_instances}
use Rattle.report_terms.specs.declared.refusal.Refusal.{Refusal}
use Rattle.report_terms.specs.declared.report.Body.{Body}
use Rattle.report_terms.specs.declared.report.Body.TheVariants.{Refused, Solved as SolvedBody}
use Rattle.report_terms.specs.declared.report.Solved.{Solved}
use Rattle.flownodes_cli.specs.RightTexts.{split_settings, IsTrueOfRoutes, SaysTrue}

module _ (g : VertexGraph) (net : IsNet (bare g)) where
  -- the routes of the paths, where there is an answer
  explained : (upper : Option ℕ) (paths : List (List ℕ × ℕ)) → ArePathsFor Interval (split_instance g) upper paths →
      IfSome upper (λ n. Explains g (routes_of g paths) × (length paths ≡ n))
  explained None paths are = tt
  explained (Some n) paths are = ((meeting_is_explaining g paths net are.0.0).0 are.0, are.1)

  -- a lower bound, where there is one
  bounded : (lower : Option ℕ) → IfSome lower (IsLowerBound Interval (split_instance g)) → IfSome lower (NeedsRoutes g)
  bounded None bound = tt
  bounded (Some n) bound = (lower_bounds_count_routes g n net).0 bound

  -- what is right for the split instance is true of the routes
  solved-true : (s : Solved) → SolvedRight split_settings (split_instance g) s → IsTrueOfRoutes g s
  solved-true s right = record {
    explained = explained s.upper s.paths right.paths;
    optimal = λ is. let best = right.optimal is in (optimal_is_fewest g s.paths net best.meets.0).0 best;
    infeasible = λ is. (infeasible_is_unexplained g net).0 (right.infeasible is);
    bound = bounded s.lower right.bound;
  }

module _ (g : NodeLists) (valid : IsNodeGraph g) where
  net : IsNet (bare (vertex_graph g))
  net = subst (λ n. IsNet (record { vertices = n; edges = g.edges })) (sym valid.weighted) valid.acyclic

  -- the body of a right report
  body-true : (found : Result RawGraph Refusal) (body : Body) → read Interval (split_block g) ≡ found → BodyRight split_settings found body → SaysTrue (vertex_graph g) body
  body-true (Err refusal) (Refused r) is right = tt
  body-true (Err refusal) (SolvedBody s) is right = absurd right
  body-true (Ok raw) (Refused r) is right = absurd right
  body-true (Ok raw) (SolvedBody s) is right =
      solved-true (vertex_graph g) net s (subst (λ i. SolvedRight split_settings i s) (split_blocks_are_instances g raw valid is) right)

  pub says-true : (body : Body) → BodyRight split_settings (read Interval (split_block g)) body → SaysTrue (vertex_graph g) body
  says-true body right = body-true (read Interval (split_block g)) body refl right
