-- Rules through an edge that are taken in rising order, no two of them on one path.
use Rattle.std.specs.Prelude.{ℕ, ◌<◌, ◌≤◌, ◌⊎◌, List, [], ◌∷◌, length, nat_lt, All, Contains, IsTrue}
use Rattle.decomposition.specs.Graph.{contains_run, edge_count, RunsShareAPath}
use Rattle.decomposition.specs.Answer.{is_ordered}
use Rattle.decomposition.specs.Instance.{Instance, range}
use Rattle.decomposition.specs.Certificates.{rule_at, AllRunsApart}

-- numbers below n, rising
pub record RisesBelow (n : ℕ) (xs : List ℕ) : Type 0 where
  pub rising : IsTrue (is_ordered nat_lt xs)
  pub below : All (λ x. x < n) xs

-- a rule goes through an edge
abbrev pub GoesThrough : Instance → ℕ → ℕ → Type 0
GoesThrough i e c = IsTrue (contains_run (rule_at i c) (e ∷ []))

-- a rule goes on one path with a rule of the list that is before it
pub record IsHeldBack (i : Instance) (cs : List ℕ) (c : ℕ) : Type 0 where
  pub other : ℕ
  pub listed : Contains cs other
  pub before : other < c
  pub shared : RunsShareAPath i.graph (rule_at i c) (rule_at i other)

-- rules below n through one edge, no two on one path; each other one through it goes on one path with one of them before it
pub record AreTakenApart (n : ℕ) (i : Instance) (e : ℕ) (cs : List ℕ) : Type 0 where
  pub rises : RisesBelow n cs
  pub through : All (GoesThrough i e) cs
  pub apart : AllRunsApart i cs
  pub full : (c : ℕ) → c < n → GoesThrough i e c → Contains cs c ⊎ IsHeldBack i cs c

-- an edge carries as many paths as there are rules through it that are taken apart
abbrev pub CarriesTaken : Instance → ℕ → Type 0
CarriesTaken i e = (cs : List ℕ) × AreTakenApart (length i.rules) i e cs × (length cs ≤ (range i e).hi)

-- each edge carries as many paths as there are rules through it that are taken apart
abbrev pub EachCarriesTaken : Instance → Type 0
EachCarriesTaken i = (e : ℕ) → e < edge_count i.graph → CarriesTaken i e
