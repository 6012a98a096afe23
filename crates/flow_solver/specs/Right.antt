-- When what is said of an instance is right.
pub use Rattle.cert_check.specs.Accepted.{CountsPaths}
use Rattle.std.specs.Prelude.{◌≤◌, ◌<◌, ◌≡◌, ◌≢◌, ◌+◌, ◌/◌, ◌↔◌, ◌⊎◌, ◌||◌, ℕ, List, [], length, Bool, true, false, Option, None, Some, is_some, IfSome, IsSomeAnd, IsTrue, AllPairs}
use Rattle.decomposition.specs.declared.Mode.{Mode}
use Rattle.decomposition.specs.declared.Mode.TheVariants.{Exact, Interval, Abs}
use Rattle.decomposition.specs.declared.Decision.{Decision}
use Rattle.decomposition.specs.Graph.{edge_count}
use Rattle.decomposition.specs.Answer.{IsAnswer}
use Rattle.decomposition.specs.Instance.{Instance, Meets, error, objective, IsOptimal, IsLowerBound, IsInfeasible}
use Rattle.decomposition.specs.Width.{IsAntichain, IsWidth}
use Rattle.decomposition.specs.SafeRuns.{IsSafe, AreMaximal}
use Rattle.decomposition.specs.Tokens.{rule_list}
use Rattle.decomposition.specs.Searches.{EndsSpent}
use Rattle.decomposition.specs.Certificates.{decision_below, decision_at_all, IsBoundingTree, IsInfeasibleTree, IsCut, IsCrowd}
use Rattle.report_terms.specs.declared.report.Solved.{Solved}
use Rattle.report_terms.specs.declared.report.Mark.{Mark}
use Rattle.report_terms.specs.declared.report.Mark.TheVariants.{Optimal, Infeasible, Bounds}
use Rattle.report_terms.specs.declared.report.Cert.{Cert}
use Rattle.report_terms.specs.declared.report.Cert.TheVariants.{Zero, Wide, Tree, Cut, Crowd}
use Rattle.report_terms.specs.declared.report.Trail.{Trail}
use Rattle.flow_solver.specs.Booking.{IsAtMostFirst, IsKnownWhereBookedFit}
use Rattle.flow_solver.specs.Crowds.{EachCarriesTaken}
use Rattle.flow_solver.specs.declared.asked.Asked.{Asked}

-- the model in which a flow within the ranges may be wanting
abbrev pub HasRanges : Mode → Type 0
HasRanges Exact = ⊥
HasRanges Interval = Unit {0}
HasRanges (Abs k) = ⊥

-- a lower bound that is shown by as many edges with a lower bound of at least 1, of which no two lie on one path: it is the width
pub record IsShownWide (mode : Mode) (i : Instance) (lower : ℕ) (es : List ℕ) : Type 0 where
  pub counts : CountsPaths mode
  pub positive : 1 ≤ lower
  pub width : IsWidth i lower
  pub antichain : IsAntichain i es
  pub counted : length es ≡ lower

-- a lower bound that is shown by a refutation of the next smaller number, with at most so many tokens; where paths are counted it is not the width
pub record IsShownByTree (nodes : ℕ) (mode : Mode) (i : Instance) (lower : ℕ) (tree : Trail) : Type 0 where
  pub decision : tree.decision ≡ decision_below mode i lower
  pub bounding : IsBoundingTree mode i lower tree.tokens
  pub few : length tree.tokens ≤ nodes
  pub not_width : CountsPaths mode → IsWidth i lower → ⊥

-- the certificate of a lower bound: none for 0, an antichain for the width, and else a refutation
abbrev pub IsCertFor : ℕ → Mode → Instance → ℕ → Cert → Type 0
IsCertFor nodes mode i lower Zero = lower ≡ 0
IsCertFor nodes mode i lower (Wide es) = IsShownWide mode i lower es
IsCertFor nodes mode i lower (Tree tree) = IsShownByTree nodes mode i lower tree
IsCertFor nodes mode i lower (Cut side vertices) = ⊥
IsCertFor nodes mode i lower (Crowd e rules) = ⊥

-- a refutation that no answer meets, with at most so many tokens
pub record IsNeverByTree (nodes : ℕ) (mode : Mode) (i : Instance) (tree : Trail) : Type 0 where
  pub decision : tree.decision ≡ decision_at_all mode i
  pub refuted : IsInfeasibleTree mode i tree.tokens
  pub few : length tree.tokens ≤ nodes

-- the certificate that nothing meets: a refutation, a cut, or a crowd
abbrev pub IsCertOfNone : ℕ → Mode → Instance → Cert → Type 0
IsCertOfNone nodes mode i Zero = ⊥
IsCertOfNone nodes mode i (Wide es) = ⊥
IsCertOfNone nodes mode i (Tree tree) = IsNeverByTree nodes mode i tree
IsCertOfNone nodes mode i (Cut side vertices) = HasRanges mode × IsCut i side vertices
IsCertOfNone nodes mode i (Crowd e rules) = CountsPaths mode × IsCrowd i e rules

-- the decision that asks for something better than `upper`, or for anything that meets; of an error it asks for the middle of both bounds
abbrev pub decision_between : Mode → Instance → ℕ → Option ℕ → Decision
decision_between mode i lower None = decision_at_all mode i
decision_between Exact i lower (Some upper) = decision_below Exact i upper
decision_between Interval i lower (Some upper) = decision_below Interval i upper
decision_between (Abs k) i lower (Some upper) = record { slots = k; limit = Some ((lower + upper) / 2) }

-- the trail of a search that was spent: the rule list of so many tokens, after which some token is legal for the first box
pub record IsTrailFor (nodes : ℕ) (mode : Mode) (i : Instance) (lower : ℕ) (upper : Option ℕ) (trail : Trail) : Type 0 where
  pub decision : trail.decision ≡ decision_between mode i lower upper
  pub tokens : trail.tokens ≡ rule_list i trail.decision nodes
  pub spent : EndsSpent i trail.decision nodes

-- an optimum that is known: both bounds are one number, and its certificate shows that nothing is below it
pub record IsDecided (nodes : ℕ) (mode : Mode) (i : Instance) (s : Solved) : Type 0 where
  pub value : ℕ
  pub lower : s.lower ≡ Some value
  pub upper : s.upper ≡ Some value
  pub cert : IsCertFor nodes mode i value s.cert
  pub no_trail : s.trail ≡ None

-- nothing meets, and the certificate shows it
pub record IsWithoutAnswer (nodes : ℕ) (mode : Mode) (i : Instance) (s : Solved) : Type 0 where
  pub lower : s.lower ≡ None
  pub upper : s.upper ≡ None
  pub cert : IsCertOfNone nodes mode i s.cert
  pub no_trail : s.trail ≡ None

-- an optimum that is not known: it is at least `lower`, whose certificate shows it, and `upper`, if an answer is known, is above that; the trail shows the search that was spent
pub record IsBounded (nodes : ℕ) (mode : Mode) (i : Instance) (s : Solved) : Type 0 where
  pub value : ℕ
  pub lower : s.lower ≡ Some value
  pub upper : IfSome s.upper (λ upper. value < upper)
  pub cert : IsCertFor nodes mode i value s.cert
  pub trail : IsSomeAnd s.trail (IsTrailFor nodes mode i value s.upper)

-- what the mark says of the bounds, the certificate and the trail
abbrev pub IsMarked : ℕ → Mode → Instance → Solved → Mark → Type 0
IsMarked nodes mode i s Optimal = IsDecided nodes mode i s
IsMarked nodes mode i s Infeasible = IsWithoutAnswer nodes mode i s
IsMarked nodes mode i s Bounds = IsBounded nodes mode i s

-- the paths are an answer that meets the model, and `upper` is its value; where there is none, no path is printed
abbrev pub ArePathsFor : Mode → Instance → Option ℕ → List (List ℕ × ℕ) → Type 0
ArePathsFor mode i None paths = paths ≡ []
ArePathsFor mode i (Some upper) paths = Meets mode i paths × (objective mode i paths ≡ upper)

-- no path stands twice
abbrev pub HasEachPathOnce : List (List ℕ × ℕ) → Type 0
HasEachPathOnce a = AllPairs (λ x y. x.0 ≢ y.0) a

-- there are at most as many paths as edges and runs that must be covered, where the number of paths is to be least
abbrev pub AreFew : Mode → Instance → List (List ℕ × ℕ) → Type 0
AreFew Exact i paths = length paths ≤ edge_count i.graph + length i.rules
AreFew Interval i paths = length paths ≤ edge_count i.graph + length i.rules
AreFew (Abs k) i paths = Unit {0}

-- a number of paths is at least the width
abbrev pub IsAtLeastWidth : Mode → Instance → ℕ → Type 0
IsAtLeastWidth mode i lower = CountsPaths mode → (es : List ℕ) → IsAntichain i es → length es ≤ lower

-- whether a certificate is a cut
abbrev pub is_cut : Cert → Bool
is_cut Zero = false
is_cut (Wide es) = false
is_cut (Tree tree) = false
is_cut (Cut side vertices) = true
is_cut (Crowd e rules) = false

-- no weighted paths lie within the ranges
abbrev pub NothingIsWithin : Instance → Type 0
NothingIsWithin i = (a : List (List ℕ × ℕ)) → IsAnswer i.graph a → error i a ≡ 0 → ⊥

-- where there are ranges, a cut stands exactly where no weighted paths lie within them
abbrev pub HasCutWhereDue : Mode → Instance → Cert → Type 0
HasCutWhereDue mode i cert = HasRanges mode → IsTrue (is_cut cert) ↔ NothingIsWithin i

-- whether a certificate is a crowd
abbrev pub is_crowd : Cert → Bool
is_crowd Zero = false
is_crowd (Wide es) = false
is_crowd (Tree tree) = false
is_crowd (Cut side vertices) = false
is_crowd (Crowd e rules) = true

-- where paths are counted and no answer is known, a cut or a crowd stands, or each edge carries as many paths as rules are taken there
abbrev pub HasCrowdWhereFound : Mode → Instance → Option ℕ → Cert → Type 0
HasCrowdWhereFound mode i upper cert = CountsPaths mode → upper ≡ None → IsTrue (is_cut cert || is_crowd cert) ⊎ EachCarriesTaken i

-- the runs that are listed: there where they were asked for, and then the rising list of the maximal safe runs
abbrev pub AreListed : Asked → Instance → Option (List (List ℕ)) → Type 0
AreListed asked i runs = (is_some runs ≡ asked.safe) × IfSome runs (AreMaximal (IsSafe i))

-- A solved report is right and true for an instance: its paths meet the model with `upper` as their value, are no worse than the first
-- answer, and none stands twice; a cut stands where it is due, and a crowd where one is found; what the mark says of bounds, certificate and trail holds; the runs listed are the
-- maximal safe ones; no answer is below `lower`; the paths of an optimal one are best, and where the mark is infeasible nothing meets.
pub record SolvedRight (asked : Asked) (i : Instance) (s : Solved) : Type 0 where
  pub paths : ArePathsFor asked.mode i s.upper s.paths
  pub once : HasEachPathOnce s.paths
  pub few : AreFew asked.mode i s.paths
  pub first : IsAtMostFirst asked.mode i s.upper
  pub known : IsKnownWhereBookedFit asked.mode i s.upper
  pub wide : IfSome s.lower (IsAtLeastWidth asked.mode i)
  pub cut : HasCutWhereDue asked.mode i s.cert
  pub crowd : HasCrowdWhereFound asked.mode i s.upper s.cert
  pub marked : IsMarked asked.nodes asked.mode i s s.mark
  pub safe : AreListed asked i s.safe
  pub bound : IfSome s.lower (IsLowerBound asked.mode i)
  pub optimal : s.mark ≡ Optimal → IsOptimal asked.mode i s.paths
  pub infeasible : s.mark ≡ Infeasible → IsInfeasible asked.mode i
