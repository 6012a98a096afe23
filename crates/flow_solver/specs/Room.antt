-- Flows within ranges that are at least given numbers, as the units of booked paths.
use Rattle.std.specs.Prelude.{◌≡◌, ℕ, ◌+◌, ◌-◌, ◌≤◌, ◌<◌, max, cond, List, [], length, slice_index, All}
use Rattle.decomposition.specs.declared.Range.{Range}
use Rattle.decomposition.specs.Graph.{Graph, edge_count, has_edge}
use Rattle.decomposition.specs.Answer.{IsAnswer, weight_on}
use Rattle.decomposition.specs.Instance.{Instance, IsFlowWithin, error, range_at}
use Rattle.flow_solver.specs.declared.thin.Settling.{Settling}

-- the instance of a graph with ranges, in which no run must be covered
abbrev pub ranged : Graph → List Range → Instance
ranged g ranges = record { graph = g; ranges = ranges; rules = [] }

-- one number for each edge, a flow within the ranges
abbrev pub IsFlowIn : Graph → List Range → List ℕ → Type 0
IsFlowIn g ranges flow = (length flow ≡ edge_count g) × IsFlowWithin (ranged g ranges) (slice_index flow)

-- a flow within the ranges that is at least the units of the booked paths
pub record HasRoomFor (g : Graph) (ranges : List Range) (booked : List (List ℕ × ℕ)) (flow : List ℕ) : Type 0 where
  pub within : IsFlowIn g ranges flow
  pub units : (e : ℕ) → e < edge_count g → weight_on booked e ≤ slice_index flow e

-- no weighted paths within the ranges put on each edge at least the units of the booked paths
abbrev pub HasNoRoomFor : Graph → List Range → List (List ℕ × ℕ) → Type 0
HasNoRoomFor g ranges booked =
    (a : List (List ℕ × ℕ)) → IsAnswer g a → error (ranged g ranges) a ≡ 0 → ((e : ℕ) → e < edge_count g → weight_on booked e ≤ weight_on a e) → ⊥

-- a flow within the ranges that is at least these numbers
pub record IsFlowAbove (g : Graph) (ranges : List Range) (least flow : List ℕ) : Type 0 where
  pub within : IsFlowIn g ranges flow
  pub above : (e : ℕ) → e < edge_count g → slice_index least e ≤ slice_index flow e

-- no weighted paths within the ranges put at least these numbers on the edges
abbrev pub HasNoneAbove : Graph → List Range → List ℕ → Type 0
HasNoneAbove g ranges least =
    (a : List (List ℕ × ℕ)) → IsAnswer g a → error (ranged g ranges) a ≡ 0 → ((e : ℕ) → e < edge_count g → slice_index least e ≤ weight_on a e) → ⊥

-- the number of some edge passes its upper bound
abbrev pub IsPassed : List Range → List ℕ → Type 0
IsPassed ranges least = (e : ℕ) × (e < length ranges) × ((range_at ranges e).hi < slice_index least e)

-- the first n ranges with each lower bound raised to the number of its edge, which passes no upper bound
pub record AreRaisedBefore (n : ℕ) (ranges : List Range) (least : List ℕ) (raised : List Range) : Type 0 where
  pub count : length raised ≡ n
  pub low : (e : ℕ) → e < n → (range_at raised e).lo ≡ max (range_at ranges e).lo (slice_index least e)
  pub high : (e : ℕ) → e < n → (range_at raised e).hi ≡ (range_at ranges e).hi
  pub fits : (e : ℕ) → e < n → slice_index least e ≤ (range_at ranges e).hi

-- all of them
abbrev pub AreRaised : List Range → List ℕ → List Range → Type 0
AreRaised ranges least raised = AreRaisedBefore (length ranges) ranges least raised

-- each number is at least the lower bound of its edge
abbrev pub AreReached : List Range → List ℕ → Type 0
AreReached ranges settled = (e : ℕ) → e < length ranges → (range_at ranges e).lo ≤ slice_index settled e

-- no number of the first list is above the one at its place in the second
abbrev pub AreAtMost : List ℕ → List ℕ → Type 0
AreAtMost xs ys = (e : ℕ) → e < length xs → slice_index xs e ≤ slice_index ys e

-- what the first n edges have over what is settled on them
pub record IsLeftOf (n : ℕ) (flow settled left : List ℕ) : Type 0 where
  pub count : length left ≡ n
  pub each : (e : ℕ) → e < n → slice_index left e ≡ slice_index flow e - slice_index settled e

-- so much more on the edges of a path passes no upper bound
abbrev pub FitsAlong : List Range → List ℕ → ℕ → List ℕ → Type 0
FitsAlong ranges settled more path = All (λ e. slice_index settled e + more ≤ (range_at ranges e).hi) path

-- the same numbers, with so much more on the edges of a path
pub record IsAddedAlong (settled path : List ℕ) (more : ℕ) (sums : List ℕ) : Type 0 where
  pub count : length sums ≡ length settled
  pub each : (e : ℕ) → slice_index sums e ≡ slice_index settled e + cond (has_edge path e) more 0

-- a flow within the ranges that is at least what is settled on each edge
pub record IsSettling (g : Graph) (ranges : List Range) (s : Settling) : Type 0 where
  pub count : length s.settled.items ≡ edge_count g
  pub flow : IsFlowAbove g ranges s.settled.items s.flow
