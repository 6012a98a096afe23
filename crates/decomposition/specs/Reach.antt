-- What can be reached.
use Rattle.std.specs.Prelude.{◌≡◌, ℕ, zero, suc, ◌⊎◌, Bool, ◌||◌, ◌==◌, List, [], ◌∷◌, IsTrue}
use Rattle.std.specs.List.{list_any}
use Rattle.decomposition.specs.Graph.{Graph, edge_count, tail, head, edges_from, is_source, is_walk_from, walk_end, has_edge}

-- a walk leads from u to v; the empty one from each vertex to itself
pub record Reaches (g : Graph) (u v : ℕ) : Type 0 where
  pub edges : List ℕ
  pub walk : IsTrue (is_walk_from g u edges)
  pub end : walk_end g u edges ≡ v

-- whether a walk of at most n edges leads from u to v
abbrev pub reaches_within : ℕ → Graph → ℕ → ℕ → Bool
reaches_within zero g u v = u == v
reaches_within (suc n) g u v = (u == v) || list_any (λ e. reaches_within n g (head g e) v) (edges_from g u)

-- whether a walk leads from u to v: no walk of a net has more edges than the net
abbrev pub reaches : Graph → ℕ → ℕ → Bool
reaches g u v = reaches_within (edge_count g) g u v

-- a walk that is empty or begins at a source: paths begin with it
abbrev pub IsBegun : Graph → List ℕ → Type 0
IsBegun g [] = Unit {0}
IsBegun g (e ∷ es) = IsTrue (is_source g (tail g e)) × IsTrue (is_walk_from g (tail g e) (e ∷ es))

-- the empty walk may have every edge; another one those that it has, and those whose tail its end reaches
abbrev pub MayHave : Graph → List ℕ → ℕ → Type 0
MayHave g [] f = Unit {0}
MayHave g (e ∷ es) f = IsTrue (has_edge (e ∷ es) f) ⊎ Reaches g (walk_end g (tail g e) (e ∷ es)) (tail g f)
