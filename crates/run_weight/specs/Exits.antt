-- Where a path leaves a run that it has not come along.
use Rattle.std.specs.Prelude.{◌≡◌, ◌≢◌, ℕ, ◌<◌, List, length, take, drop, ◌++◌, slice_index}
use Rattle.decomposition.specs.Graph.{Graph, tail}

-- for each vertex the place, below n, of the run's edge that leaves it; 0 where none does, or the first
pub record ArePlacesBelow (g : Graph) (r : List ℕ) (n : ℕ) (places : List ℕ) : Type 0 where
  pub count : length places ≡ g.vertices
  pub there : (v : ℕ) → 0 < slice_index places v → (slice_index places v < length r) × (tail g (slice_index r (slice_index places v)) ≡ v)
  pub each : (k : ℕ) → 0 < k → k < n → 0 < slice_index places (tail g (slice_index r k))

-- for each vertex the place of the run's edge that leaves it
abbrev pub ArePlacesAlong : Graph → List ℕ → List ℕ → Type 0
ArePlacesAlong g r places = ArePlacesBelow g r (length r) places

-- a list ends with another
abbrev pub EndsWith : List ℕ → List ℕ → Type 0
EndsWith xs ys = (before : List ℕ) × (xs ≡ before ++ ys)

-- at place `at` a path leaves the run from the vertex that the run's edge `along` leaves, and has not come along the run up to there
pub record IsExit (g : Graph) (r p : List ℕ) (at along : ℕ) : Type 0 where
  pub on_path : at < length p
  pub behind_first : 0 < along
  pub on_run : along < length r
  pub meets : tail g (slice_index p at) ≡ tail g (slice_index r along)
  pub other : slice_index p at ≢ slice_index r along
  pub apart : ¬ EndsWith (take at p) (take along r)

-- a path has no exit
abbrev pub HasNoExit : Graph → List ℕ → List ℕ → List ℕ → Type 0
HasNoExit g r places p = (at : ℕ) → at < length p → ¬ IsExit g r p at (slice_index places (tail g (slice_index p at)))

-- the first edges of a list up to a place, and the edges of another from a place on
abbrev pub joined : List ℕ → ℕ → List ℕ → ℕ → List ℕ
joined before i after j = take i before ++ drop j after
