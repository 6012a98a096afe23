-- What decompositions put on a run, and the least that they put on it.
use Rattle.std.specs.Prelude.{◌≡◌, ℕ, ◌≤◌, cond, List, sum_by, ℤ, pos, negsuc}
use Rattle.decomposition.specs.Graph.{Graph, contains_run}
use Rattle.decomposition.specs.Flow.{Decomposes}

-- the load of a run: the weight of the entries whose path contains it
abbrev pub load : List (List ℕ × ℕ) → List ℕ → ℕ
load a r = sum_by (λ (entry : List ℕ × ℕ). cond (contains_run entry.0 r) entry.1 0) a

-- the least load of a run: some decomposition of the flow puts so much on it, and none puts less
pub record IsLeastLoad (g : Graph) (flow : ℕ → ℕ) (r : List ℕ) (w : ℕ) : Type 0 where
  pub reached : (a : List (List ℕ × ℕ)) × Decomposes g flow a × (load a r ≡ w)
  pub least : (a : List (List ℕ × ℕ)) → Decomposes g flow a → w ≤ load a r

-- a lightest decomposition: no decomposition of the flow puts less on the run
pub record IsLightest (g : Graph) (flow : ℕ → ℕ) (r : List ℕ) (a : List (List ℕ × ℕ)) : Type 0 where
  pub decomposes : Decomposes g flow a
  pub least : (b : List (List ℕ × ℕ)) → Decomposes g flow b → load a r ≤ load b r

-- the greater of 0 and a number
abbrev pub at_least_0 : ℤ → ℕ
at_least_0 (pos n) = n
at_least_0 (negsuc n) = 0
