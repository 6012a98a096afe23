-- The vertices taken away one by one, each once no edge that is left enters it.
use Rattle.std.specs.Prelude.{◌≡◌, ℕ, ◌<◌, ◌==◌, ◌&&◌, not, eqb, nat_lt, Bool, cond, List, length, slice_index, take, IsTrue}
use Rattle.std.specs.List.{list_any, IsDistinct}
use Rattle.decomposition.specs.Graph.{Graph, edge_count, tail, head}
use Rattle.decomposition.specs.Answer.{sum_below}

-- whether a vertex is in a list
abbrev pub is_listed : List ℕ → ℕ → Bool
is_listed order v = list_any (λ w. v == w) order

-- how many of the edges that are not gone enter a vertex
abbrev pub entering : Graph → (ℕ → Bool) → ℕ → ℕ
entering g gone v = sum_below (λ d. cond ((head g d == v) && not (gone d)) 1 0) (edge_count g)

-- how many edges that are left enter each vertex, and the vertices that none enters, each behind all that an edge leads from to it
pub record Peels (g : Graph) (gone : ℕ → Bool) (waiting order : List ℕ) : Type 0 where
  pub room : length waiting ≡ g.vertices
  pub counts : (v : ℕ) → v < g.vertices → slice_index waiting v ≡ entering g gone v
  pub listed : (v : ℕ) → v < g.vertices → is_listed order v ≡ (slice_index waiting v == 0)
  pub below : (v : ℕ) → IsTrue (is_listed order v) → v < g.vertices
  pub distinct : IsDistinct eqb order
  pub forward : (d j : ℕ) → d < edge_count g → j < length order → slice_index order j ≡ head g d → (i : ℕ) × (i < j) × (slice_index order i ≡ tail g d)
  pub begun : (d : ℕ) → d < edge_count g → IsTrue (gone d) → IsTrue (is_listed order (tail g d))

-- the edges that leave the first k vertices of the order are gone
abbrev pub PeelsTo : Graph → ℕ → List ℕ → List ℕ → Type 0
PeelsTo g k waiting order = Peels g (λ d. is_listed (take k order) (tail g d)) waiting order

-- for each vertex how many edges enter it
pub record IsEnteringCount (g : Graph) (counts : List ℕ) : Type 0 where
  pub room : length counts ≡ g.vertices
  pub at : (v : ℕ) → v < g.vertices → slice_index counts v ≡ sum_below (λ d. cond (head g d == v) 1 0) (edge_count g)

-- the vertices below n that no edge enters, each once
pub record AreSourcesBelow (counts : List ℕ) (n : ℕ) (found : List ℕ) : Type 0 where
  pub listed : (v : ℕ) → is_listed found v ≡ (nat_lt v n && (slice_index counts v == 0))
  pub distinct : IsDistinct eqb found
