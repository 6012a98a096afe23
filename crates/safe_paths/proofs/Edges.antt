-- The edges of runs and paths, and how many there are.
use Rattle.std.proofs.Common.{◌<◌, ◌≤◌, ℕ, List, [], ◌∷◌, length, arith}
use Rattle.std.specs.Prelude.{All}
use Rattle.std.proofs.lemmas.List.Elements.{All-from_get_or}
use Rattle.decomposition.specs.Graph.{Graph, IsNet, IsRun, edge_count, tail}
use Rattle.decomposition.proofs.Walks.{walk-length}
use Rattle.decomposition.proofs.Runs.{run-place}

pub run-edges : (g : Graph) (r : List ℕ) → IsRun g r → All (λ e. e < edge_count g) r
run-edges g r run = All-from_get_or (λ e. e < edge_count g) r 0 (λ k h. run-place g r k run h)

pub run-few : (g : Graph) → IsNet g → (r : List ℕ) → IsRun g r → length r ≤ edge_count g
run-few g net [] run = omega arith
run-few g net (e ∷ es) run = walk-length g net (tail g e) (e ∷ es) run
