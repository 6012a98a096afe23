-- Small worked examples, which the definitions compute.
use Rattle.std.specs.Prelude.{◌≡◌, true, false, [], ◌∷◌}
use Rattle.node_routes.specs.Routes.{VertexGraph, is_route, IsFewest, IsUnexplained}
use Rattle.node_routes.specs.Split.{just, up_to, split_graph, split_ranges, route_in, path_of}

-- a vertex of weight 5, and edges from it to one of weight 3 and one of weight 2
abbrev pub fork : VertexGraph
fork = record { weights = 5 ∷ 3 ∷ 2 ∷ []; edges = (0, 1) ∷ (0, 2) ∷ [] }

-- two vertices in a row, with weights 5 and 3
abbrev pub uneven : VertexGraph
uneven = record { weights = 5 ∷ 3 ∷ []; edges = (0, 1) ∷ [] }

-- one vertex, without edges
abbrev pub single : VertexGraph
single = record { weights = 4 ∷ []; edges = [] }

-- no vertex at all, and one of weight 0
abbrev pub nothing : VertexGraph
nothing = record { weights = []; edges = [] }

abbrev pub weightless : VertexGraph
weightless = record { weights = 0 ∷ []; edges = [] }

-- what the definitions say of these examples
pub record WorkedExamples : Type 0 where
  pub split_edges : (split_graph fork).edges ≡ (0, 1) ∷ (2, 3) ∷ (4, 5) ∷ (1, 2) ∷ (1, 4) ∷ []
  pub split_bounds : split_ranges fork ≡ just 5 ∷ just 3 ∷ just 2 ∷ up_to 5 ∷ up_to 5 ∷ []
  pub least_bound : split_ranges (record weightless { edges = (0, 0) ∷ [] }) ≡ just 0 ∷ up_to 1 ∷ []
  pub along : path_of fork (0 ∷ 2 ∷ []) ≡ 0 ∷ 4 ∷ 2 ∷ []
  pub back : route_in 3 (0 ∷ 4 ∷ 2 ∷ []) ≡ 0 ∷ 2 ∷ []
  pub whole : is_route fork (0 ∷ 2 ∷ []) ≡ true
  pub too_short : is_route fork (0 ∷ []) ≡ false
  pub begun_late : is_route fork (2 ∷ []) ≡ false
  pub unjoined : is_route fork (1 ∷ 2 ∷ []) ≡ false
  pub alone : is_route single (0 ∷ []) ≡ true
  pub empty : is_route single [] ≡ false
  pub unknown : is_route single (1 ∷ []) ≡ false
  pub two_routes : IsFewest fork ((0 ∷ 1 ∷ [], 3) ∷ (0 ∷ 2 ∷ [], 2) ∷ [])
  pub one_route : IsFewest single ((0 ∷ [], 4) ∷ [])
  pub no_vertex : IsFewest nothing []
  pub no_weight : IsFewest weightless []
  pub too_little : IsUnexplained uneven
