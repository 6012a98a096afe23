-- What is known of the least error after so many searches.
use Rattle.std.specs.Prelude.{◌≡◌, ℕ, ◌+◌, ◌-◌, ◌≤◌, ◌<◌, ◌^◌, cond, List, length, Option, None, Some, is_none}
use Rattle.decomposition.specs.declared.Mode.TheVariants.{Abs}
use Rattle.decomposition.specs.FirstAnswer.{with_unit}
use Rattle.decomposition.specs.Instance.{Instance, IsInstance, IsLowerBound, error}
use Rattle.report_terms.specs.NetFacts.{IsCertOf, IsSmallTrail}
use Rattle.report_terms.specs.declared.report.Cert.{Cert}
use Rattle.report_terms.specs.declared.report.Trail.{Trail}
use Rattle.flow_solver.specs.Booking.{AreBookedFor}
use Rattle.flow_solver.specs.Right.{IsCertFor, IsTrailFor}
use Rattle.flow_solver.specs.Searched.{IsKnown}
use Rattle.flow_solver.specs.declared.least_error.Halved.{Halved}

-- an answer with its error, and a lower bound with what shows it
pub record IsBetween (nodes k : ℕ) (i : Instance) (a : List (List ℕ × ℕ)) (lower upper : ℕ) (cert : Cert) : Type 0 where
  pub known : IsKnown (Abs k) i a
  pub upper_is : error i a ≡ upper
  pub ordered : lower ≤ upper
  pub small : upper < 2 ^ 63
  pub shown : IsCertFor nodes (Abs k) i lower cert
  pub speaks : IsCertOf i.graph cert
  pub bound : IsLowerBound (Abs k) i lower

-- the trail of the search for half of what lies between the bounds, where it was spent
abbrev pub IsSpentBetween : ℕ → ℕ → Instance → ℕ → ℕ → Option Trail → Type 0
IsSpentBetween nodes k i lower upper None = Unit {0}
IsSpentBetween nodes k i lower upper (Some trail) = (lower < upper) × IsTrailFor nodes (Abs k) i lower (Some upper) trail × IsSmallTrail trail

-- what is known after so many searches
pub record IsHalving (nodes k : ℕ) (i : Instance) (h : Halved) : Type 0 where
  pub between : IsBetween nodes k i h.paths h.lower h.upper h.cert
  pub spent : IsSpentBetween nodes k i h.lower h.upper h.trail

-- what the searches came to: the bounds meet where none was spent
pub record HalvesTo (nodes k : ℕ) (i : Instance) (h : Halved) : Type 0 where
  pub halving : IsHalving nodes k i h
  pub meet : h.trail ≡ None → h.lower ≡ h.upper

-- how many searches there may still be
abbrev pub steps_left : Halved → ℕ
steps_left h = (h.upper - h.lower) + cond (is_none h.trail) 1 0

-- and the answer is no worse than the booked paths, where at most k are booked
pub record IsHalvedFor (nodes k : ℕ) (i : Instance) (h : Halved) : Type 0 where
  pub valid : IsInstance (Abs k) i
  pub halves : HalvesTo nodes k i h
  pub booked : (booked : List (List ℕ)) → AreBookedFor i booked → length booked ≤ k → h.upper ≤ error i (with_unit booked)
