-- What first answers there are.
use Rattle.std.specs.Prelude.{ℕ, ◌+◌, ◌≤◌, List, length, Option, None, Some, IfSome, option_map}
use Rattle.decomposition.specs.declared.Mode.{Mode}
use Rattle.decomposition.specs.declared.Mode.TheVariants.{Interval}
use Rattle.decomposition.specs.Graph.{Graph, edge_count}
use Rattle.decomposition.specs.Answer.{Covers, IsInReportOrder}
use Rattle.decomposition.specs.Certificates.{IsCut}
use Rattle.decomposition.specs.FirstAnswer.{IsBooked, BookingFits, IsFirstAnswer}
use Rattle.decomposition.specs.Flow.{Decomposes}
use Rattle.decomposition.specs.Instance.{Instance}
use Rattle.greedy_paths.specs.Built.{IsLeastFirst, HasNoFirst}
use Rattle.report_terms.specs.NetFacts.{AreRisingVertices}
use Rattle.flow_solver.specs.Booking.{IsAtMostFirst, IsKnownWhereBookedFit}
use Rattle.flow_solver.specs.Right.{NothingIsWithin}
use Rattle.flow_solver.specs.Searched.{IsKnown, AreFewPaths}
use Rattle.flow_solver.specs.declared.interval.Within.{Within}
use Rattle.flow_solver.specs.declared.interval.Within.TheVariants.{Cut, First}

-- a first answer of a flow
pub record IsFirst (g : Graph) (flow : ℕ → ℕ) (rules : List (List ℕ)) (a : List (List ℕ × ℕ)) : Type 0 where
  pub made : Decomposes g flow a
  pub covers : Covers rules a
  pub order : IsInReportOrder a
  pub few : length a ≤ edge_count g + length rules
  pub first : IsFirstAnswer g flow rules a
  pub least : IsLeastFirst g flow rules a

-- the booked paths of the rules pass the flow, so there is no first answer
pub record HasNoRoom (g : Graph) (flow : ℕ → ℕ) (rules : List (List ℕ)) : Type 0 where
  pub booked : List (List ℕ)
  pub books : IsBooked g flow rules booked
  pub passed : BookingFits g flow booked → ⊥
  pub no_first : HasNoFirst g flow rules

-- a first answer of a flow, or none where the booked paths pass it
abbrev pub IsFirstOfFlow : Graph → (ℕ → ℕ) → List (List ℕ) → Option (List (List ℕ × ℕ)) → Type 0
IsFirstOfFlow g flow rules None = HasNoRoom g flow rules
IsFirstOfFlow g flow rules (Some a) = IsFirst g flow rules a

-- how many paths an answer has, if there is one
abbrev pub count_known : Option (List (List ℕ × ℕ)) → Option ℕ
count_known first = option_map length first

-- where the searches for few paths begin: at an answer that is no worse than the first answer, or at none where the booked paths do not fit
pub record IsBeginning (mode : Mode) (i : Instance) (first : Option (List (List ℕ × ℕ))) : Type 0 where
  pub known : IfSome first (IsKnown Interval i)
  pub few : IfSome first (AreFewPaths i)
  pub at_most : IsAtMostFirst mode i (count_known first)
  pub fits : IsKnownWhereBookedFit mode i (count_known first)

-- a cut of the ranges, or a beginning, and then some weighted paths lie within the ranges
abbrev pub IsWithin : Instance → Within → Type 0
IsWithin i (Cut side vertices) = IsCut i side vertices × AreRisingVertices i.graph vertices
IsWithin i (First first) = IsBeginning Interval i first × (NothingIsWithin i → ⊥)
