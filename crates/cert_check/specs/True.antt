-- When what was found for a graph is true.
use Rattle.std.specs.Prelude.{◌≡◌, [], None, IfSome, IsSomeAnd}
use Rattle.decomposition.specs.declared.Mode.{Mode}
use Rattle.decomposition.specs.Instance.{Instance, Meets, objective, IsOptimal, IsInfeasible, IsLowerBound}
use Rattle.decomposition.specs.SafeRuns.{IsSafe, AreMaximal}
use Rattle.report_terms.specs.declared.report.Mark.TheVariants.{Optimal, Infeasible, Bounds}
use Rattle.report_terms.specs.declared.report.Solved.{Solved}
use Rattle.report_terms.specs.declared.report.Body.{Body}
use Rattle.report_terms.specs.declared.report.Body.TheVariants.{Refused, Solved as SolvedBody}

-- What was found is true: paths that are printed meet the model, and the upper bound is their value; those of an optimal report are best;
-- nothing meets where the mark is infeasible; nothing that meets is below a lower bound; runs that are listed are the maximal safe ones.
pub record IsTrueSolved (mode : Mode) (i : Instance) (s : Solved) : Type 0 where
  pub printed : IfSome s.upper (λ upper. Meets mode i s.paths × (objective mode i s.paths ≡ upper))
  pub unprinted : s.upper ≡ None → s.paths ≡ []
  pub optimal : s.mark ≡ Optimal → IsOptimal mode i s.paths
  pub infeasible : s.mark ≡ Infeasible → IsInfeasible mode i
  pub bounds : s.mark ≡ Bounds → IsSomeAnd s.lower (IsLowerBound mode i)
  pub runs : IfSome s.safe (AreMaximal (IsSafe i))

-- a body is true for an instance: it says what was found, and that is true
abbrev pub IsTrueReport : Mode → Instance → Body → Type 0
IsTrueReport mode i (Refused refusal) = ⊥
IsTrueReport mode i (SolvedBody s) = IsTrueSolved mode i s
