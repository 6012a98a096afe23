-- A run of one edge in a run.
use Rattle.std.proofs.Common.{◌≡◌, ◌==◌, ◌||◌, ◌&&◌, ℕ, true, false, Bool, List, [], ◌∷◌, refl, ap, ◌∙◌}
use Rattle.std.specs.List.{list_any}
use Rattle.decomposition.specs.Graph.{contains_run}

same-or : (a b : Bool) → ((a && true) || b) ≡ (a || b)
same-or true b = refl
same-or false b = refl

-- a run contains the run of one edge where it has the edge
pub contains_run-edge : (run : List ℕ) (e : ℕ) → contains_run run (e ∷ []) ≡ list_any (λ d. d == e) run
contains_run-edge [] e = refl
contains_run-edge (d ∷ run) e = ap (λ b. ((d == e) && true) || b) (contains_run-edge run e) ∙ same-or (d == e) (list_any (λ d. d == e) run)
