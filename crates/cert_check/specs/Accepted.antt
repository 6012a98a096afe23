-- When what was found for a graph is accepted: the clause of each line.
use Rattle.std.specs.Prelude.{◌≡◌, ◌≢◌, ℕ, ◌≤◌, ◌<◌, List, [], length, Option, Some, None, IfSome, IsSomeAnd, AllPairs}
use Rattle.decomposition.specs.declared.Mode.{Mode}
use Rattle.decomposition.specs.declared.Mode.TheVariants.{Exact, Interval, Abs}
use Rattle.decomposition.specs.declared.Decision.{Decision}
use Rattle.decomposition.specs.Instance.{Instance, Meets, objective}
use Rattle.decomposition.specs.Width.{IsAntichain}
use Rattle.decomposition.specs.Tokens.{IsTrail}
use Rattle.decomposition.specs.Certificates.{IsCut, IsCrowd, decision_below, decision_at_all, IsBoundingTree, IsInfeasibleTree}
use Rattle.decomposition.specs.SafeRuns.{IsSafe, AreMaximal}
use Rattle.report_terms.specs.declared.report.Mark.{Mark}
use Rattle.report_terms.specs.declared.report.Mark.TheVariants.{Optimal, Infeasible, Bounds}
use Rattle.report_terms.specs.declared.report.Cert.{Cert}
use Rattle.report_terms.specs.declared.report.Cert.TheVariants.{Zero, Wide, Tree, Cut, Crowd}
use Rattle.report_terms.specs.declared.report.Trail.{Trail}

-- the bounds are those of the mark: equal numbers, none, or a number with none or a larger one above it
abbrev pub MarkFits : Mark → Option ℕ → Option ℕ → Type 0
MarkFits Optimal lower upper = IsSomeAnd lower (λ n. upper ≡ Some n)
MarkFits Infeasible lower upper = (lower ≡ None) × (upper ≡ None)
MarkFits Bounds lower upper = IsSomeAnd lower (λ n. IfSome upper (λ u. n < u))

-- there are no paths where there is no upper bound; else they meet the model, none stands twice, and their value is the bound
abbrev pub PathsFit : Mode → Instance → Option ℕ → List (List ℕ × ℕ) → Type 0
PathsFit mode i None paths = paths ≡ []
PathsFit mode i (Some upper) paths = AllPairs (λ a b. a.0 ≢ b.0) paths × Meets mode i paths × (objective mode i paths ≡ upper)

-- the number of paths is what is to be least
abbrev pub CountsPaths : Mode → Type 0
CountsPaths Exact = Unit {0}
CountsPaths Interval = Unit {0}
CountsPaths (Abs k) = ⊥

-- the certificate shows a lower bound
abbrev pub ShowsBound : Mode → Instance → ℕ → Cert → Type 0
ShowsBound mode i lower Zero = lower ≡ 0
ShowsBound mode i lower (Wide edges) = CountsPaths mode × (length edges ≡ lower) × IsAntichain i edges
ShowsBound mode i lower (Tree tree) = (tree.decision ≡ decision_below mode i lower) × IsBoundingTree mode i lower tree.tokens
ShowsBound mode i lower (Cut side vertices) = ⊥
ShowsBound mode i lower (Crowd edge rules) = ⊥

-- the certificate shows that nothing meets
abbrev pub ShowsNone : Mode → Instance → Cert → Type 0
ShowsNone mode i Zero = ⊥
ShowsNone mode i (Wide edges) = ⊥
ShowsNone mode i (Tree tree) = (tree.decision ≡ decision_at_all mode i) × IsInfeasibleTree mode i tree.tokens
ShowsNone mode i (Cut side vertices) = CountsPaths mode × IsCut i side vertices
ShowsNone mode i (Crowd edge rules) = CountsPaths mode × IsCrowd i edge rules

-- the certificate shows what the mark wants: the lower bound, or that nothing meets
abbrev pub CertFits : Mode → Instance → Mark → Option ℕ → Cert → Type 0
CertFits mode i Optimal lower cert = IsSomeAnd lower (λ n. ShowsBound mode i n cert)
CertFits mode i Infeasible lower cert = ShowsNone mode i cert
CertFits mode i Bounds lower cert = IsSomeAnd lower (λ n. ShowsBound mode i n cert)

-- what a spent search was asked: less than the upper bound, if there is one, else all; of the least error, a limit between the bounds
abbrev pub IsAsked : Mode → Instance → Option ℕ → Option ℕ → Decision → Type 0
IsAsked mode i lower None d = d ≡ decision_at_all mode i
IsAsked Exact i lower (Some upper) d = d ≡ decision_below Exact i upper
IsAsked Interval i lower (Some upper) d = d ≡ decision_below Interval i upper
IsAsked (Abs k) i lower (Some upper) d = (d.slots ≡ k) × IsSomeAnd d.limit (λ limit. IfSome lower (λ n. n ≤ limit) × (limit < upper))

-- the tokens of a trail are legal for what is asked under the bounds, and leave a box
abbrev pub LeavesOpen : Mode → Instance → Option ℕ → Option ℕ → Trail → Type 0
LeavesOpen mode i lower upper t = IsAsked mode i lower upper t.decision × IsTrail i t.decision t.tokens

-- a trail is there exactly with the mark bounds, and leaves open what is between them
abbrev pub TrailFits : Mode → Instance → Mark → Option ℕ → Option ℕ → Option Trail → Type 0
TrailFits mode i Optimal lower upper trail = trail ≡ None
TrailFits mode i Infeasible lower upper trail = trail ≡ None
TrailFits mode i Bounds lower upper trail = IsSomeAnd trail (λ t. LeavesOpen mode i lower upper t)

-- the runs that are listed are the maximal safe runs of an exact instance
abbrev pub SafeFits : Mode → Instance → Option (List (List ℕ)) → Type 0
SafeFits mode i safe = IfSome safe (λ runs. (mode ≡ Exact) × AreMaximal (IsSafe i) runs)
