-- Instances of flow decomposition, the three models, and what is best.
use Rattle.std.specs.Prelude.{◌<◌, ◌≡◌, ℕ, ◌+◌, ◌-◌, ◌≤◌, max, ◌&&◌, ◌==◌, nat_le, List, [], ◌∷◌, length, slice_index_or, IsTrue}
use Rattle.std.specs.List.{list_all, IsDistinct}
use Rattle.std.specs.Cmp.Lexicographic.{pointwise}
use Rattle.decomposition.specs.declared.Range.{Range}
use Rattle.decomposition.specs.declared.Mode.{Mode}
use Rattle.decomposition.specs.declared.Mode.TheVariants.{Exact, Interval, Abs}
use Rattle.decomposition.specs.Graph.{Graph, IsNet, is_run, edge_count}
use Rattle.decomposition.specs.Flow.{IsBalanced}
use Rattle.decomposition.specs.Answer.{sum_below, weight_on, IsAnswer, Covers}

-- an instance: a graph, a range for each edge, and the runs that must be covered
pub record Instance : Type 0 where
  pub graph : Graph
  pub ranges : List Range
  pub rules : List (List ℕ)

-- the range at a place of a list
abbrev pub range_at : List Range → ℕ → Range
range_at ranges e = slice_index_or ranges e (record { lo = 0; hi = 0 })

-- the range of an edge
abbrev pub range : Instance → ℕ → Range
range i e = range_at i.ranges e

-- the greatest of 1 and all upper bounds
abbrev pub greatest_hi : List Range → ℕ
greatest_hi [] = 1
greatest_hi (r ∷ rs) = max r.hi (greatest_hi rs)

-- the cap of an instance, above which no path needs to weigh
abbrev pub cap : Instance → ℕ
cap i = greatest_hi i.ranges

-- how far a number lies outside a range
abbrev pub distance : Range → ℕ → ℕ
distance r x = (r.lo - x) + (x - r.hi)

-- the error: over all edges, how far the weight on the edge lies outside its range
abbrev pub error : Instance → List (List ℕ × ℕ) → ℕ
error i a = sum_below (λ e. distance (range i e) (weight_on a e)) (edge_count i.graph)

-- the lower bounds of an instance as numbers on the edges
abbrev pub lower_bound : Instance → ℕ → ℕ
lower_bound i e = (range i e).lo

-- what the model asks of the ranges: both bounds are the weight in the exact and the least-error model, and exact weights are balanced
abbrev pub FitsModel : Mode → Instance → Type 0
FitsModel Exact i = IsTrue (list_all (λ r. r.lo == r.hi) i.ranges) × IsBalanced i.graph (lower_bound i)
FitsModel Interval i = Unit {0}
FitsModel (Abs k) i = IsTrue (list_all (λ r. r.lo == r.hi) i.ranges)

-- a valid instance of a model
pub record IsInstance (mode : Mode) (i : Instance) : Type 0 where
  pub net : IsNet i.graph
  pub ranged : length i.ranges ≡ edge_count i.graph
  pub bounded : IsTrue (list_all (λ r. nat_le r.lo r.hi && nat_le r.hi 1000000000000) i.ranges)
  pub runs : IsTrue (list_all (is_run i.graph) i.rules)
  pub distinct : IsDistinct (pointwise (λ d e. d == e)) i.rules
  pub fits : FitsModel mode i

-- an answer meets the model: it covers, and its error is 0, or it has at most k paths
abbrev pub Meets : Mode → Instance → List (List ℕ × ℕ) → Type 0
Meets Exact i a = IsAnswer i.graph a × Covers i.rules a × (error i a ≡ 0)
Meets Interval i a = IsAnswer i.graph a × Covers i.rules a × (error i a ≡ 0)
Meets (Abs k) i a = IsAnswer i.graph a × Covers i.rules a × (length a ≤ k)

-- what is to be least: the number of paths, or the error
abbrev pub objective : Mode → Instance → List (List ℕ × ℕ) → ℕ
objective Exact i a = length a
objective Interval i a = length a
objective (Abs k) i a = error i a

-- it meets, and nothing that meets has a smaller objective
pub record IsOptimal (mode : Mode) (i : Instance) (a : List (List ℕ × ℕ)) : Type 0 where
  pub meets : Meets mode i a
  pub least : (b : List (List ℕ × ℕ)) → Meets mode i b → objective mode i a ≤ objective mode i b

-- nothing meets
abbrev pub IsInfeasible : Mode → Instance → Type 0
IsInfeasible mode i = (a : List (List ℕ × ℕ)) → Meets mode i a → ⊥

-- every answer that meets has at least this objective
abbrev pub IsLowerBound : Mode → Instance → ℕ → Type 0
IsLowerBound mode i n = (a : List (List ℕ × ℕ)) → Meets mode i a → n ≤ objective mode i a

-- a flow within the ranges
pub record IsFlowWithin (i : Instance) (flow : ℕ → ℕ) : Type 0 where
  pub balanced : IsBalanced i.graph flow
  pub low : (e : ℕ) → e < edge_count i.graph → (range i e).lo ≤ flow e
  pub high : (e : ℕ) → e < edge_count i.graph → flow e ≤ (range i e).hi
