-- Places in the paths of an answer, and the runs that stand there.
use Rattle.std.specs.Prelude.{◌≡◌, ℕ, ◌<◌, ◌≤◌, ◌⊎◌, ◌↔◌, List, length, map, All, Contains}
use Rattle.decomposition.specs.Graph.{IsRising}
use Rattle.decomposition.specs.Answer.{entry_at}
use Rattle.safe_paths.specs.Windows.{part}
use Rattle.safe_paths.specs.declared.places.Place.{Place}

-- the place lies in a path of the answer
pub record IsPlaceIn (a : List (List ℕ × ℕ)) (p : Place) : Type 0 where
  pub there : p.path < length a
  pub ordered : p.from ≤ p.to
  pub within : p.to ≤ length (entry_at a p.path).0

-- the run at a place
abbrev pub run_at : List (List ℕ × ℕ) → Place → List ℕ
run_at a p = part (entry_at a p.path).0 p.from p.to

-- the runs at some places
abbrev pub runs_at : List (List ℕ × ℕ) → List Place → List (List ℕ)
runs_at a places = map (run_at a) places

-- the place lies in a path before path k, or begins before place i of that path
abbrev pub ComesBefore : Place → ℕ → ℕ → Type 0
ComesBefore p k i = (p.path < k) ⊎ ((p.path ≡ k) × (p.from < i))

-- the runs at these places have a property, and all that have it and stand before place i of path k are among them
pub record Finds (P : List ℕ → Type 0) (a : List (List ℕ × ℕ)) (k i : ℕ) (places : List Place) : Type 0 where
  pub within : All (IsPlaceIn a) places
  pub each : All (λ p. P (run_at a p)) places
  pub all : (p : Place) → IsPlaceIn a p → ComesBefore p k i → P (run_at a p) → Contains (runs_at a places) (run_at a p)

-- the same runs, each once, rising by edge list
pub record AreInOrder (found runs : List (List ℕ)) : Type 0 where
  pub rising : IsRising runs
  pub same : (r : List ℕ) → Contains runs r ↔ Contains found r
