-- Levels that are changed by 1 at the inner vertices of a set.
use Rattle.std.specs.Prelude.{◌≡◌, ℕ, ◌<◌, ◌&&◌, Bool, cond, List, length, ℤ, pos, ◌+ℤ◌, ◌<ℤ◌}
use Rattle.decomposition.specs.Graph.{Graph, is_inner}
use Rattle.decomposition.specs.Certificates.{has_vertex}
use Rattle.dag_net.specs.Marks.{is_set}
use Rattle.error_flow.specs.Certificate.{bound, AreAllowed}

-- the levels of the inner vertices that pass a test are changed by a number
abbrev pub IsShifted : Graph → (ℕ → Bool) → ℤ → (ℕ → ℤ) → (ℕ → ℤ) → Type 0
IsShifted g inside by old new = (v : ℕ) → v < g.vertices → new v ≡ old v +ℤ cond (inside v && is_inner g v) by (pos 0)

-- a mark on just the vertices of a list
pub record AreMarksOf (n : ℕ) (xs : List ℕ) (marks : List Bool) : Type 0 where
  pub count : length marks ≡ n
  pub each : (v : ℕ) → is_set marks v ≡ has_vertex xs v

-- allowed levels with a greater bound
pub record Climbs (g : Graph) (weight : ℕ → ℕ) (old new : ℕ → ℤ) : Type 0 where
  pub allowed : AreAllowed g new
  pub higher : bound g weight old <ℤ bound g weight new
