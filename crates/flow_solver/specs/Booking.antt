-- When the booked paths of an instance fit, and what its first answer bounds.
use Rattle.std.specs.Prelude.{◌≡◌, ℕ, ◌≤◌, ◌<◌, List, length, Option, None, IsSomeAnd}
use Rattle.decomposition.specs.declared.Mode.{Mode}
use Rattle.decomposition.specs.declared.Mode.TheVariants.{Exact, Interval, Abs}
use Rattle.decomposition.specs.Graph.{edge_count}
use Rattle.decomposition.specs.Answer.{IsAnswer, weight_on}
use Rattle.decomposition.specs.Instance.{Instance, FitsModel, range, lower_bound, error}
use Rattle.decomposition.specs.FirstAnswer.{IsBooked, BookingFits, IsFirstAnswer, with_unit}

-- the upper bounds of an instance as numbers on the edges; where both bounds are the weight, they are the weights
abbrev pub upper_bound : Instance → ℕ → ℕ
upper_bound i e = (range i e).hi

-- the paths that the runs of an instance book
abbrev pub AreBookedFor : Instance → List (List ℕ) → Type 0
AreBookedFor i booked = IsBooked i.graph (upper_bound i) i.rules booked

-- weighted paths within the ranges that put on each edge at least the units of the booked paths
pub record MakesRoom (i : Instance) (booked : List (List ℕ)) (a : List (List ℕ × ℕ)) : Type 0 where
  pub answer : IsAnswer i.graph a
  pub within : error i a ≡ 0
  pub units : (e : ℕ) → e < edge_count i.graph → weight_on (with_unit booked) e ≤ weight_on a e

-- booked paths fit: into the weights, into weighted paths within the ranges, or into the number of paths
abbrev pub BookedFit : Mode → Instance → List (List ℕ) → Type 0
BookedFit Exact i booked = BookingFits i.graph (upper_bound i) booked
BookedFit Interval i booked = (a : List (List ℕ × ℕ)) × MakesRoom i booked a
BookedFit (Abs k) i booked = length booked ≤ k

-- no answer is known only where the booked paths do not fit
abbrev pub IsKnownWhereBookedFit : Mode → Instance → Option ℕ → Type 0
IsKnownWhereBookedFit mode i upper = upper ≡ None → (booked : List (List ℕ)) → AreBookedFor i booked → BookedFit mode i booked → ⊥

-- as many paths are known as the first answer of the weights has, or fewer
abbrev pub IsAtMostFirstPaths : Instance → Option ℕ → Type 0
IsAtMostFirstPaths i upper =
    (first : List (List ℕ × ℕ)) → IsFirstAnswer i.graph (lower_bound i) i.rules first → IsSomeAnd upper (λ u. u ≤ length first)

-- what the first answer bounds: the number of paths where the ranges are balanced weights, or the error by that of the booked paths
abbrev pub IsAtMostFirst : Mode → Instance → Option ℕ → Type 0
IsAtMostFirst Exact i upper = IsAtMostFirstPaths i upper
IsAtMostFirst Interval i upper = FitsModel Exact i → IsAtMostFirstPaths i upper
IsAtMostFirst (Abs k) i upper =
    (booked : List (List ℕ)) → AreBookedFor i booked → length booked ≤ k → IsSomeAnd upper (λ u. u ≤ error i (with_unit booked))
