-- How wide walks to sinks are.
use Rattle.std.specs.Prelude.{◌≡◌, ℕ, ◌≤◌, ◌<◌, min, List, [], ◌∷◌, length, slice_index, IsTrue}
use Rattle.decomposition.specs.Graph.{Graph, edge_count, tail, head, is_sink, is_walk_from, walk_end}

-- the width of a walk: the least rest along it, and the greatest number of 64 bits for the empty one
abbrev pub walk_width : (ℕ → ℕ) → List ℕ → ℕ
walk_width rest [] = 18446744073709551615
walk_width rest (e ∷ es) = min (rest e) (walk_width rest es)

-- a walk from a vertex to a sink
pub record LeadsToSink (g : Graph) (v : ℕ) (es : List ℕ) : Type 0 where
  pub walk : IsTrue (is_walk_from g v es)
  pub sink : IsTrue (is_sink g (walk_end g v es))

-- a walk of such a width
pub record HasWidth (g : Graph) (rest : ℕ → ℕ) (v width : ℕ) : Type 0 where
  pub edges : List ℕ
  pub leads : LeadsToSink g v edges
  pub wide : width ≤ walk_width rest edges

-- the greatest width of a walk from a vertex to a sink: none is wider, and, but for 0, one is as wide
pub record IsWidthFrom (g : Graph) (rest : ℕ → ℕ) (v width : ℕ) : Type 0 where
  pub widest : (es : List ℕ) → LeadsToSink g v es → walk_width rest es ≤ width
  pub reached : 1 ≤ width → HasWidth g rest v width

-- the head of each edge that leaves v has its width
abbrev pub HeadsHaveWidths : Graph → (ℕ → ℕ) → ℕ → List ℕ → Type 0
HeadsHaveWidths g rest v widths =
    (e : ℕ) → e < edge_count g → tail g e ≡ v → IsWidthFrom g rest (head g e) (slice_index widths (head g e))

-- the vertices from place `from` of the order on have their widths
pub record HaveWidthsFrom (g : Graph) (rest : ℕ → ℕ) (order : List ℕ) (from : ℕ) (widths : List ℕ) : Type 0 where
  pub count : length widths ≡ g.vertices
  pub each : (k : ℕ) → from ≤ k → k < g.vertices → IsWidthFrom g rest (slice_index order k) (slice_index widths (slice_index order k))

-- each vertex has its width
pub record AreWidths (g : Graph) (rest : ℕ → ℕ) (widths : List ℕ) : Type 0 where
  pub count : length widths ≡ g.vertices
  pub each : (v : ℕ) → v < g.vertices → IsWidthFrom g rest v (slice_index widths v)
