-- The entries of an answer by what their paths do at a run, while paths change ends.
use Rattle.std.specs.Prelude.{◌≡◌, ℕ, ◌+◌, ◌*◌, ◌<◌, ◌≤◌, ◌⊎◌, true, false, All, List, [], ◌∷◌, ◌++◌, length}
use Rattle.decomposition.specs.Graph.{Graph, IsPath, contains_run}
use Rattle.decomposition.specs.Answer.{weight_on, total_weight}
use Rattle.run_weight.specs.Exits.{HasNoExit}
use Rattle.run_weight.specs.declared.sorting.Sorting.{Sorting}

-- an entry with a path that contains the run
pub record IsCarrier (g : Graph) (r : List ℕ) (entry : List ℕ × ℕ) : Type 0 where
  pub path : IsPath g entry.0
  pub positive : 1 ≤ entry.1
  pub contains : contains_run entry.0 r ≡ true

-- an entry with a path that does not contain the run
pub record IsOther (g : Graph) (r : List ℕ) (entry : List ℕ × ℕ) : Type 0 where
  pub path : IsPath g entry.0
  pub positive : 1 ≤ entry.1
  pub lacks : contains_run entry.0 r ≡ false

-- the weight of sorted entries on an edge
abbrev pub weight_sorted : Sorting → ℕ → ℕ
weight_sorted s e = weight_on s.carriers.items e + (weight_on s.pending.items e + weight_on s.settled.items e)

-- sorted entries: none is on the run any more, or the settled ones have no exit
pub record IsSorted (g : Graph) (r places : List ℕ) (s : Sorting) : Type 0 where
  pub carriers : All (IsCarrier g r) s.carriers.items
  pub pending : All (IsOther g r) s.pending.items
  pub settled : All (IsOther g r) s.settled.items
  pub done : (s.carriers.items ≡ []) ⊎ All (λ entry. HasNoExit g r places entry.0) s.settled.items

-- how often an entry may still be looked at: each exchange lowers the weight of the paths on the run
abbrev pub turns_left : Sorting → ℕ
turns_left s = 3 * total_weight s.carriers.items + length s.pending.items

-- an entry more at the end, unless it weighs nothing
pub record Adds (old : List (List ℕ × ℕ)) (path : List ℕ) (weight : ℕ) (new : List (List ℕ × ℕ)) : Type 0 where
  pub some : 0 < weight → new ≡ old ++ (path, weight) ∷ []
  pub none : weight ≡ 0 → new ≡ old

-- the sorted entries have the weights of an answer on all edges
abbrev pub HasWeights : List (List ℕ × ℕ) → Sorting → Type 0
HasWeights a s = (e : ℕ) → weight_sorted s e ≡ weight_on a e

-- an answer is sorted, and no entry is settled yet
pub record Sorts (g : Graph) (r : List ℕ) (a : List (List ℕ × ℕ)) (s : Sorting) : Type 0 where
  pub carriers : All (IsCarrier g r) s.carriers.items
  pub pending : All (IsOther g r) s.pending.items
  pub settled : s.settled.items ≡ []
  pub weights : HasWeights a s
