-- What is found for a net speaks of the net, and its numbers fit.
use Rattle.std.specs.Prelude.{◌≡◌, ℕ, ◌+◌, ◌^◌, ◌<◌, ◌≤◌, List, length, Bool, true, nat_le, nat_lt, Option, None, IfSome, IsSomeAnd, IsTrue, All}
use Rattle.decomposition.specs.declared.Mode.{Mode}
use Rattle.decomposition.specs.declared.Mode.TheVariants.{Exact, Interval, Abs}
use Rattle.decomposition.specs.declared.Token.{Token}
use Rattle.decomposition.specs.declared.Token.TheVariants.{Gap, Miss, Split, Step}
use Rattle.decomposition.specs.Graph.{Graph, edge_count, IsPath, IsRun, IsRising}
use Rattle.decomposition.specs.Answer.{is_ordered, IsInReportOrder}
use Rattle.report_terms.specs.declared.report.Mark.{Mark}
use Rattle.report_terms.specs.declared.report.Mark.TheVariants.{Optimal, Infeasible, Bounds}
use Rattle.report_terms.specs.declared.report.Cert.{Cert}
use Rattle.report_terms.specs.declared.report.Cert.TheVariants.{Zero, Wide, Tree, Cut, Crowd}
use Rattle.report_terms.specs.declared.report.Trail.{Trail}
use Rattle.report_terms.specs.declared.report.Solved.{Solved}
use Rattle.report_terms.specs.declared.report.Body.{Body}
use Rattle.report_terms.specs.declared.report.Body.TheVariants.{Refused, Solved as SolvedBody}

-- whether a report may have this model
abbrev pub is_mode : Mode → Bool
is_mode Exact = true
is_mode Interval = true
is_mode (Abs k) = nat_le k 64

-- a bound is none, or fits 64 bits
abbrev pub IsSmall : Option ℕ → Type 0
IsSmall bound = IfSome bound (λ n. n < 2 ^ 64)

-- a path of the net, with a weight of at least 1 that fits 64 bits
pub record IsEntryOf (net : Graph) (entry : List ℕ × ℕ) : Type 0 where
  pub path : IsPath net entry.0
  pub positive : 1 ≤ entry.1
  pub small : entry.1 < 2 ^ 64

-- rising edges of the net
pub record AreRisingEdges (net : Graph) (edges : List ℕ) : Type 0 where
  pub within : All (λ e. e < edge_count net) edges
  pub rising : IsTrue (is_ordered nat_lt edges)
  pub few : length edges < 2 ^ 64

-- rising vertices of the net
pub record AreRisingVertices (net : Graph) (vertices : List ℕ) : Type 0 where
  pub within : All (λ v. v < net.vertices) vertices
  pub rising : IsTrue (is_ordered nat_lt vertices)
  pub few : length vertices < 2 ^ 64

-- a slot or a rule that, counted from 1, fits 32 bits
abbrev pub IsPlace : ℕ → Type 0
IsPlace n = n + 1 < 2 ^ 32

-- rising rules
pub record AreRisingRules (rules : List ℕ) : Type 0 where
  pub places : All IsPlace rules
  pub rising : IsTrue (is_ordered nat_lt rules)
  pub few : length rules < 2 ^ 64

-- the slot or the rule of a token, if it has one, fits
abbrev pub IsSmallToken : Token → Type 0
IsSmallToken Gap = Unit {0}
IsSmallToken (Miss c) = IsPlace c
IsSmallToken (Split k) = IsPlace k
IsSmallToken (Step k) = IsPlace k

-- a trail whose numbers fit
pub record IsSmallTrail (t : Trail) : Type 0 where
  pub slots : t.decision.slots < 2 ^ 32
  pub limit : IsSmall t.decision.limit
  pub tokens : All IsSmallToken t.tokens
  pub few : length t.tokens < 2 ^ 64

-- the edges and the vertices of a certificate are those of the net, its lists rise, and its numbers fit
abbrev pub IsCertOf : Graph → Cert → Type 0
IsCertOf net Zero = Unit {0}
IsCertOf net (Wide edges) = AreRisingEdges net edges
IsCertOf net (Tree tree) = IsSmallTrail tree
IsCertOf net (Cut side vertices) = AreRisingVertices net vertices
IsCertOf net (Crowd e rules) = (e < edge_count net) × AreRisingRules rules

-- a trail is there exactly with the mark bounds
abbrev pub HasTrail : Mark → Option Trail → Type 0
HasTrail Optimal trail = trail ≡ None
HasTrail Infeasible trail = trail ≡ None
HasTrail Bounds trail = IsSomeAnd trail IsSmallTrail

-- rising runs of the net
pub record AreRisingRuns (net : Graph) (runs : List (List ℕ)) : Type 0 where
  pub within : All (IsRun net) runs
  pub rising : IsRising runs
  pub few : length runs < 2 ^ 64

-- what was found speaks of the net: its paths, in report order, its certificate, its trail, and its safe runs
pub record IsFoundIn (net : Graph) (s : Solved) : Type 0 where
  pub lower : IsSmall s.lower
  pub upper : IsSmall s.upper
  pub paths : All (IsEntryOf net) s.paths
  pub order : IsInReportOrder s.paths
  pub cert : IsCertOf net s.cert
  pub trail : HasTrail s.mark s.trail
  pub safe : IfSome s.safe (AreRisingRuns net)

-- a refusal names a line, and what was found speaks of the net
abbrev pub IsBodyOn : Graph → Body → Type 0
IsBodyOn net (Refused refusal) = (1 ≤ refusal.line) × (refusal.line < 2 ^ 64)
IsBodyOn net (SolvedBody s) = IsFoundIn net s
