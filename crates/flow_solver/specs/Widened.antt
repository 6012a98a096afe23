-- Booked paths, and the widest paths of what they leave of the weights.
use Rattle.std.specs.Prelude.{◌≡◌, ℕ, zero, suc, ◌-◌, ◌≤◌, ◌<◌, max, List, [], ◌∷◌, ◌++◌, length}
use Rattle.decomposition.specs.Answer.{IsAnswer, weight_on}
use Rattle.decomposition.specs.FirstAnswer.{IsWidest, path_width}
use Rattle.decomposition.specs.Flow.{rest_after}
use Rattle.decomposition.specs.Graph.{Graph, IsPath, edge_count}

-- the widest-first list up to n entries: each the widest path of what those before it leave, with its width; fewer than n only where no path is left
abbrev pub IsWidestFirstUpTo : Graph → (ℕ → ℕ) → ℕ → List (List ℕ × ℕ) → Type 0
IsWidestFirstUpTo g rest zero a = a ≡ []
IsWidestFirstUpTo g rest (suc n) [] = (p : List ℕ) → IsPath g p → path_width rest p ≡ 0
IsWidestFirstUpTo g rest (suc n) (a ∷ more) =
    IsWidest g rest a.0 × (a.1 ≡ path_width rest a.0) × IsWidestFirstUpTo g (rest_after rest a.0 a.1) n more

-- the booked paths first, and behind them, up to k in all, the widest-first list of what they leave, which puts no more on an edge than they leave of its weight
pub record IsWidened (g : Graph) (weights : ℕ → ℕ) (booked : List (List ℕ × ℕ)) (k : ℕ) (a : List (List ℕ × ℕ)) : Type 0 where
  pub others : List (List ℕ × ℕ)
  pub begins : a ≡ booked ++ others
  pub answer : IsAnswer g a
  pub most : (e : ℕ) → e < edge_count g → weight_on a e ≤ max (weights e) (weight_on booked e)
  pub widest : IsWidestFirstUpTo g (λ e. weights e - weight_on booked e) (k - length booked) others
