-- What searches came to.
use Rattle.std.specs.Prelude.{◌≡◌, ℕ, ◌+◌, ◌*◌, ◌≤◌, ◌<◌, ◌^◌, List, length, All, Option, Some, None, IfSome}
use Rattle.decomposition.specs.declared.Mode.{Mode}
use Rattle.decomposition.specs.declared.Mode.TheVariants.{Interval}
use Rattle.decomposition.specs.declared.Decision.{Decision}
use Rattle.decomposition.specs.Graph.{edge_count}
use Rattle.decomposition.specs.Answer.{IsAnswer, Covers, IsInReportOrder, weight_on}
use Rattle.decomposition.specs.FirstAnswer.{with_unit}
use Rattle.decomposition.specs.Instance.{Instance, IsInstance, Meets, error}
use Rattle.decomposition.specs.Tokens.{rule_list, IsRefutation}
use Rattle.decomposition.specs.Searches.{EndsSpent}
use Rattle.decomposition.specs.Certificates.{IsWithin, IsCrowd, decision_below, decision_at_all}
use Rattle.decomposition.specs.Width.{IsAntichain, IsWidth}
use Rattle.report_terms.specs.NetFacts.{IsSmallTrail, AreRisingEdges, AreRisingRules}
use Rattle.report_terms.specs.declared.report.Trail.{Trail}
use Rattle.flow_solver.specs.Booking.{AreBookedFor, IsAtMostFirst, IsKnownWhereBookedFit}
use Rattle.flow_solver.specs.Crowds.{EachCarriesTaken}
use Rattle.flow_solver.specs.Right.{HasEachPathOnce, HasRanges, NothingIsWithin}
use Rattle.flow_solver.specs.declared.searching.Attempt.{Attempt}
use Rattle.flow_solver.specs.declared.searching.Attempt.TheVariants.{Found, Refuted, Spent}
use Rattle.flow_solver.specs.declared.counting.Ending.{Ending}
use Rattle.flow_solver.specs.declared.counting.Ending.TheVariants.{Width, Refuted as AtRefutation, Spent as AtBudget}
use Rattle.flow_solver.specs.declared.counting.Finding.{Finding}
use Rattle.flow_solver.specs.declared.counting.Finding.TheVariants.{Known, Crowded, Never, Open}

-- an answer to a decision, in report order, no path twice, with no more weight on an edge than so many paths of the greatest weight of a text
pub record IsFoundFor (i : Instance) (d : Decision) (a : List (List ℕ × ℕ)) : Type 0 where
  pub answer : IsAnswer i.graph a
  pub covers : Covers i.rules a
  pub few : length a ≤ d.slots
  pub within : IsWithin d.limit (error i a)
  pub order : IsInReportOrder a
  pub once : HasEachPathOnce a
  pub light : (e : ℕ) → weight_on a e ≤ d.slots * 1000000000000

-- a decision is refuted, with at most so many tokens
pub record IsRefutedBy (nodes : ℕ) (i : Instance) (d : Decision) (tree : Trail) : Type 0 where
  pub decision : tree.decision ≡ d
  pub refuted : IsRefutation i d tree.tokens
  pub few : length tree.tokens ≤ nodes
  pub small : IsSmallTrail tree

-- the search for an answer to a decision was spent
pub record IsSpentBy (nodes : ℕ) (i : Instance) (d : Decision) (trail : Trail) : Type 0 where
  pub decision : trail.decision ≡ d
  pub tokens : trail.tokens ≡ rule_list i d nodes
  pub spent : EndsSpent i d nodes
  pub small : IsSmallTrail trail

-- the decision of a trail is refuted by its tokens, of which there are at most so many
abbrev pub IsRefutedAlone : ℕ → Instance → Trail → Type 0
IsRefutedAlone nodes i tree = IsRefutedBy nodes i tree.decision tree

-- as many paths as the width, or more, are refuted where no error is allowed
pub record IsRaised (nodes : ℕ) (i : Instance) (width : ℕ) (tree : Trail) : Type 0 where
  pub refuted : IsRefutedAlone nodes i tree
  pub limit : tree.decision.limit ≡ Some 0
  pub above : width ≤ tree.decision.slots

-- and no more than one fewer than can be needed are refuted
abbrev pub IsRaisedWithin : ℕ → Instance → ℕ → Trail → Type 0
IsRaisedWithin nodes i width tree = IsRaised nodes i width tree × (tree.decision.slots < edge_count i.graph + length i.rules)

-- how many paths there must be: as many as the width, or one more than are refuted
abbrev pub floor_of : ℕ → Option Trail → ℕ
floor_of width None = width
floor_of width (Some tree) = tree.decision.slots + 1

-- what one search came to
abbrev pub AttemptsAs : ℕ → Instance → Decision → Attempt → Type 0
AttemptsAs nodes i d (Found a) = IsFoundFor i d a
AttemptsAs nodes i d (Refuted tree) = IsRefutedBy nodes i d tree
AttemptsAs nodes i d (Spent trail) = IsSpentBy nodes i d trail

-- an answer that meets the model, in report order, no path twice, with weights that fit a report
pub record IsKnown (mode : Mode) (i : Instance) (a : List (List ℕ × ℕ)) : Type 0 where
  pub meets : Meets mode i a
  pub order : IsInReportOrder a
  pub once : HasEachPathOnce a
  pub small : All (λ entry. entry.1 < 2 ^ 64) a

-- no more paths than edges and runs that must be covered
abbrev pub AreFewPaths : Instance → List (List ℕ × ℕ) → Type 0
AreFewPaths i a = length a ≤ edge_count i.graph + length i.rules

-- why no further search is made, where there are so many paths
abbrev pub StopsAt : ℕ → Instance → ℕ → ℕ → Ending → Type 0
StopsAt nodes i width count Width = count ≤ width
StopsAt nodes i width count (AtRefutation tree) = (width < count) × IsRefutedBy nodes i (decision_below Interval i count) tree
StopsAt nodes i width count (AtBudget trail raised) = (width < count) × IsSpentBy nodes i (decision_below Interval i count) trail
    × IfSome raised (λ tree. IsRaised nodes i width tree × (tree.decision.slots + 1 < count))

-- what is known when the searches for few paths have ended: an answer and why there is no further search, a crowd, or, where each edge
-- carries what is taken at it, that nothing meets, or nothing
abbrev pub FindsAs : ℕ → Instance → ℕ → Finding → Type 0
FindsAs nodes i width (Known a ending) = IsKnown Interval i a × AreFewPaths i a × StopsAt nodes i width (length a) ending
FindsAs nodes i width (Crowded e cs) = IsCrowd i e cs × AreRisingRules cs
FindsAs nodes i width (Never tree) = IsRefutedBy nodes i (decision_at_all Interval i) tree × EachCarriesTaken i
FindsAs nodes i width (Open trail raised) = IsSpentBy nodes i (decision_at_all Interval i) trail × EachCarriesTaken i
    × IfSome raised (IsRaisedWithin nodes i width)

-- how many paths are known, if an answer is
abbrev pub count_of : Finding → Option ℕ
count_of (Known a ending) = Some (length a)
count_of (Crowded e cs) = None
count_of (Never tree) = None
count_of (Open trail raised) = None

-- what is known of an instance whose paths are counted: an antichain of as many edges as the width, what was found, and that it is no worse than the first answer
pub record IsSolvedBy (nodes : ℕ) (mode : Mode) (i : Instance) (es : List ℕ) (finding : Finding) : Type 0 where
  pub valid : IsInstance mode i
  pub wide : IsWidth i (length es)
  pub antichain : IsAntichain i es
  pub rising : AreRisingEdges i.graph es
  pub finds : FindsAs nodes i (length es) finding
  pub first : IsAtMostFirst mode i (count_of finding)
  pub known : IsKnownWhereBookedFit mode i (count_of finding)
  pub within : HasRanges mode → NothingIsWithin i → ⊥

-- the decision that asks for at most k paths, with any error
abbrev pub any_error : ℕ → Decision
any_error k = record { slots = k; limit = None }

-- where at most k paths are booked, an answer with at most their error is known
abbrev pub IsNoWorseThanBooked : ℕ → Instance → Attempt → Type 0
IsNoWorseThanBooked k i (Found a) = (booked : List (List ℕ)) → AreBookedFor i booked → length booked ≤ k → error i a ≤ error i (with_unit booked)
IsNoWorseThanBooked k i (Refuted tree) = (booked : List (List ℕ)) → AreBookedFor i booked → length booked ≤ k → ⊥
IsNoWorseThanBooked k i (Spent trail) = (booked : List (List ℕ)) → AreBookedFor i booked → length booked ≤ k → ⊥
