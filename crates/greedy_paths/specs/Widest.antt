-- The widest path, edge by edge.
use Rattle.std.specs.Prelude.{◌≡◌, ℕ, ◌≤◌, ◌<◌, List, [], ◌∷◌, Option, Some, None, MatchOption, IsTrue}
use Rattle.decomposition.specs.Graph.{Graph, edge_count, tail, head, is_source, is_sink, IsPath}
use Rattle.decomposition.specs.FirstAnswer.{path_width, IsWidest}
use Rattle.greedy_paths.specs.Widths.{HasWidth}

-- a walk of this width to a sink begins with the edge
pub record IsWide (g : Graph) (rest : ℕ → ℕ) (width e : ℕ) : Type 0 where
  pub here : width ≤ rest e
  pub beyond : HasWidth g rest (head g e) width

-- a path of this width begins with the edge
abbrev pub IsWideFromSource : Graph → (ℕ → ℕ) → ℕ → ℕ → Type 0
IsWideFromSource g rest width e = IsTrue (is_source g (tail g e)) × IsWide g rest width e

-- a walk of this width from v to a sink begins with the edge
abbrev pub IsWideOutOf : Graph → (ℕ → ℕ) → ℕ → ℕ → ℕ → Type 0
IsWideOutOf g rest width v e = (tail g e ≡ v) × IsWide g rest width e

-- the first edge of a kind, if there is one
abbrev pub IsFirstEdge : Graph → (ℕ → Type 0) → Option ℕ → Type 0
IsFirstEdge g kind found =
    MatchOption found ((e : ℕ) → e < edge_count g → ¬ kind e) (λ e. (e < edge_count g) × kind e × ((f : ℕ) → f < e → ¬ kind f))

-- no path is wider, and, but for 0, a path as wide begins somewhere
pub record IsGreatestWidth (g : Graph) (rest : ℕ → ℕ) (width : ℕ) : Type 0 where
  pub widest : (p : List ℕ) → IsPath g p → path_width rest p ≤ width
  pub reached : 1 ≤ width → (e : ℕ) × (e < edge_count g) × IsWideFromSource g rest width e

-- a walk from v to a sink by the first edge of this width at each vertex
abbrev pub IsFirstWalk : Graph → (ℕ → ℕ) → ℕ → ℕ → List ℕ → Type 0
IsFirstWalk g rest width v [] = IsTrue (is_sink g v)
IsFirstWalk g rest width v (e ∷ es) = IsFirstEdge g (IsWideOutOf g rest width v) (Some e) × IsFirstWalk g rest width (head g e) es

-- a path by the first edge of this width at each vertex; empty where there is no path of this width
abbrev pub IsFirstPath : Graph → (ℕ → ℕ) → ℕ → List ℕ → Type 0
IsFirstPath g rest width [] = IsFirstEdge g (IsWideFromSource g rest width) None
IsFirstPath g rest width (e ∷ es) = IsFirstEdge g (IsWideFromSource g rest width) (Some e) × IsFirstWalk g rest width (head g e) es

-- the widest path with its width, or none where each path has the width 0
abbrev pub IsWidestFound : Graph → (ℕ → ℕ) → Option (List ℕ × ℕ) → Type 0
IsWidestFound g rest found =
    MatchOption found ((p : List ℕ) → IsPath g p → path_width rest p ≡ 0) (λ a. IsWidest g rest a.0 × (a.1 ≡ path_width rest a.0))
