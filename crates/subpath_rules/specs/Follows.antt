-- When a run follows on a walk: it begins within the walk, or beyond its end.
use Rattle.std.specs.Prelude.{ℕ, ◌<◌, ◌⊎◌, ◌&&◌, ◌==◌, Bool, true, List, [], ◌∷◌, length, drop, IsTrue}
use Rattle.decomposition.specs.Graph.{Graph, tail, walk_end}
use Rattle.decomposition.specs.Reach.{Reaches}

-- whether two lists are equal as far as both go
abbrev pub agree : List ℕ → List ℕ → Bool
agree [] ys = true
agree (x ∷ xs) [] = true
agree (x ∷ xs) (y ∷ ys) = (x == y) && agree xs ys

-- from some place of the walk on, the walk and the run are equal as far as both go
abbrev pub Overlaps : List ℕ → List ℕ → Type 0
Overlaps walk run = (k : ℕ) × (k < length walk) × IsTrue (agree (drop k walk) run)

-- the vertex where a run begins
abbrev pub run_start : Graph → List ℕ → ℕ
run_start g [] = 0
run_start g (e ∷ es) = tail g e

-- the vertex where a run ends
abbrev pub run_end : Graph → List ℕ → ℕ
run_end g es = walk_end g (run_start g es) es

-- the run begins within the walk and goes on as it does, or begins where the walk's end leads to
abbrev pub Follows : Graph → List ℕ → List ℕ → Type 0
Follows g walk run = Overlaps walk run ⊎ Reaches g (run_end g walk) (run_start g run)
