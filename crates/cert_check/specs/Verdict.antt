-- What may be said of a report: it is accepted, or the line whose clause fails first.
use Rattle.std.specs.Prelude.{◌≡◌, ◌≢◌, ◌⊎◌, ℕ, ◌+◌, ◌<◌, ◌≤◌, ◌^◌, length, Option, Some, None}
use Rattle.decomposition.specs.declared.Mode.{Mode}
use Rattle.decomposition.specs.Instance.{Instance}
use Rattle.report_terms.specs.declared.report.Cert.{Cert}
use Rattle.report_terms.specs.declared.report.Cert.TheVariants.{Zero, Wide, Tree, Cut, Crowd}
use Rattle.report_terms.specs.declared.report.Trail.{Trail}
use Rattle.report_terms.specs.declared.report.Solved.{Solved}
use Rattle.report_terms.specs.declared.report.Body.{Body}
use Rattle.report_terms.specs.declared.report.Body.TheVariants.{Refused, Solved as SolvedBody}
use Rattle.report_terms.specs.declared.report.Report.{Report}
use Rattle.cert_check.specs.declared.report.Verdict.{Verdict}
use Rattle.cert_check.specs.declared.report.Verdict.TheVariants.{Yes, No}
use Rattle.cert_check.specs.Accepted.{MarkFits, PathsFit, CertFits, TrailFits, SafeFits}

-- the lines of a report that say what was found for a graph
pub data Line : Type 0 where
  MarkLine : Line
  UpperLine : Line
  CertLine : Line
  TrailLine : Line
  SafeLine : Line

-- the clause of a line holds
abbrev pub Holds : Mode → Instance → Solved → Line → Type 0
Holds mode i s MarkLine = MarkFits s.mark s.lower s.upper
Holds mode i s UpperLine = PathsFit mode i s.upper s.paths
Holds mode i s CertLine = CertFits mode i s.mark s.lower s.cert
Holds mode i s TrailLine = TrailFits mode i s.mark s.lower s.upper s.trail
Holds mode i s SafeLine = SafeFits mode i s.safe

-- how many lines stand below the line of a certificate: one for each item or token
abbrev pub item_count : Cert → ℕ
item_count Zero = 0
item_count (Wide edges) = length edges
item_count (Tree tree) = length tree.tokens
item_count (Cut side vertices) = length vertices
item_count (Crowd edge rules) = length rules

-- how many tokens a certificate has
abbrev pub token_count : Cert → ℕ
token_count Zero = 0
token_count (Wide edges) = 0
token_count (Tree tree) = length tree.tokens
token_count (Cut side vertices) = 0
token_count (Crowd edge rules) = 0

-- how many lines a trail has: its own, and one for each token
abbrev pub trail_lines : Option Trail → ℕ
trail_lines None = 0
trail_lines (Some t) = 1 + length t.tokens

-- where a line stands in the text of a report, counted from 1; a trail or safe runs that are not there stand where they would begin
abbrev pub place_of : Solved → Line → ℕ
place_of s MarkLine = 3
place_of s UpperLine = 5
place_of s CertLine = 6 + length s.paths
place_of s TrailLine = 7 + length s.paths + item_count s.cert
place_of s SafeLine = 7 + length s.paths + item_count s.cert + trail_lines s.trail

-- the clause of the line at this place fails, and those of the lines above it hold
pub record FailsFirstAt (mode : Mode) (i : Instance) (s : Solved) (place : ℕ) : Type 0 where
  pub line : Line
  pub here : place_of s line ≡ place
  pub fails : Holds mode i s line → ⊥
  pub above : (other : Line) → place_of s other < place → Holds mode i s other

-- what was found is accepted: the clause of each line holds
abbrev pub IsAcceptedSolved : Mode → Instance → Solved → Type 0
IsAcceptedSolved mode i s = (line : Line) → Holds mode i s line

-- what a verdict says of what was found
abbrev pub IsSolvedVerdict : Mode → Instance → Solved → Verdict → Type 0
IsSolvedVerdict mode i s Yes = IsAcceptedSolved mode i s
IsSolvedVerdict mode i s (No place) = FailsFirstAt mode i s place

-- a body is accepted: it says what was found, and that is accepted
abbrev pub IsAcceptedBody : Mode → Instance → Body → Type 0
IsAcceptedBody mode i (Refused refusal) = ⊥
IsAcceptedBody mode i (SolvedBody s) = IsAcceptedSolved mode i s

-- a body is not accepted: it is a refusal, which stands in line 3, or the clause of the line at this place fails first
abbrev pub BodyFailsAt : Mode → Instance → Body → ℕ → Type 0
BodyFailsAt mode i (Refused refusal) place = place ≡ 3
BodyFailsAt mode i (SolvedBody s) place = FailsFirstAt mode i s place

-- a report is accepted for an instance of a model: it names that model, and its body is accepted
pub record IsAccepted (mode : Mode) (i : Instance) (r : Report) : Type 0 where
  pub model : r.mode ≡ mode
  pub body : IsAcceptedBody mode i r.body

-- a report is not accepted: it names another model, in line 2, or its body is not accepted
abbrev pub FailsAt : Mode → Instance → Report → ℕ → Type 0
FailsAt mode i r place = ((r.mode ≢ mode) × (place ≡ 2)) ⊎ ((r.mode ≡ mode) × BodyFailsAt mode i r.body place)

-- what a verdict says of a report; the two exclude each other, and so do two places
abbrev pub IsVerdictOn : Mode → Instance → Report → Verdict → Type 0
IsVerdictOn mode i r Yes = IsAccepted mode i r
IsVerdictOn mode i r (No place) = FailsAt mode i r place

-- fewer than 2 ^ 32 paths, and fewer than 2 ^ 32 tokens in the certificate and in the trail
pub record IsShort (s : Solved) : Type 0 where
  pub few_paths : length s.paths < 2 ^ 32
  pub few_tokens : token_count s.cert < 2 ^ 32
  pub few_in_trail : trail_lines s.trail ≤ 2 ^ 32

abbrev pub IsShortBody : Body → Type 0
IsShortBody (Refused refusal) = Unit {0}
IsShortBody (SolvedBody s) = IsShort s
