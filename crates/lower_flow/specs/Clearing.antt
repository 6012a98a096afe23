-- What sending an amount on does to the flow, and the vertices of a cut.
use Rattle.std.specs.Prelude.{ℕ, ◌≤◌, ◌<◌, ◌&&◌, nat_lt, Bool, List, IsTrue}
use Rattle.std.specs.List.{list_all}
use Rattle.decomposition.specs.declared.Side.{Side}
use Rattle.decomposition.specs.Graph.{Graph}
use Rattle.decomposition.specs.Answer.{is_ordered, sum_below}
use Rattle.decomposition.specs.Certificates.{has_vertex}
use Rattle.lower_flow.specs.Residual.{surplus, deficit}
use Rattle.dag_net.specs.Marks.{is_set}

-- how much all vertices together have too much
abbrev pub total_surplus : Graph → Side → (ℕ → ℕ) → ℕ
total_surplus g side flow = sum_below (surplus g side flow) g.vertices

-- there is less that vertices have too much, and no vertex has a greater deficit
pub record IsSent (g : Graph) (side : Side) (old new : ℕ → ℕ) : Type 0 where
  pub less : total_surplus g side new < total_surplus g side old
  pub kept : (v : ℕ) → deficit g side new v ≤ deficit g side old v

-- the marked vertices below n, rising
pub record AreMarked (marked : List Bool) (n : ℕ) (xs : List ℕ) : Type 0 where
  pub listed : IsTrue (list_all (λ v. nat_lt v n && is_set marked v) xs)
  pub all : (v : ℕ) → v < n → IsTrue (is_set marked v) → IsTrue (has_vertex xs v)
  pub rising : IsTrue (is_ordered nat_lt xs)
