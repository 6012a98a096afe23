-- What is accepted is true: certificates show what the mark says, and the paths are printed with their value.
use Rattle.std.proofs.Common.{◌≡◌, ◌≤◌, ℕ, List, Option, Some, None, length, sym, subst, arith}
use Rattle.std.specs.Prelude.{IfSome, IsSomeAnd}
use Rattle.decomposition.specs.declared.Mode.{Mode}
use Rattle.decomposition.specs.declared.Mode.TheVariants.{Exact, Interval, Abs}
use Rattle.decomposition.specs.declared.Side.{Side}
use Rattle.decomposition.specs.Instance.{Instance, IsInstance, Meets, objective, IsOptimal, IsInfeasible, IsLowerBound}
use Rattle.decomposition.specs.Width.{IsAntichain}
use Rattle.decomposition.specs.Certificates.{IsCut, IsCrowd}
use Rattle.decomposition.specs.SafeRuns.{IsSafe, AreMaximal}
use Rattle.decomposition.proofs.Antichains.{antichains_bound}
use Rattle.decomposition.proofs.Root.{trees_bound}
use Rattle.decomposition.proofs.FewPaths.{trees_refute_all}
use Rattle.decomposition.proofs.Cuts.{cuts_refute}
use Rattle.decomposition.proofs.Crowds.{crowds_refute}
use Rattle.report_terms.specs.declared.report.Mark.{Mark}
use Rattle.report_terms.specs.declared.report.Mark.TheVariants.{Optimal, Infeasible, Bounds}
use Rattle.report_terms.specs.declared.report.Cert.{Cert}
use Rattle.report_terms.specs.declared.report.Cert.TheVariants.{Zero, Wide, Tree, Cut, Crowd}
use Rattle.report_terms.specs.declared.report.Solved.{Solved}
use Rattle.report_terms.specs.declared.report.Body.{Body}
use Rattle.report_terms.specs.declared.report.Body.TheVariants.{Refused, Solved as SolvedBody}
use Rattle.cert_check.specs.Accepted.{MarkFits, PathsFit, CountsPaths, ShowsBound, ShowsNone, CertFits, SafeFits}
use Rattle.cert_check.specs.Verdict.{IsAcceptedSolved, IsAcceptedBody}
use Rattle.cert_check.specs.Verdict.Line.{MarkLine, UpperLine, CertLine, SafeLine}
use Rattle.cert_check.specs.True.{IsTrueSolved, IsTrueReport}

-- an antichain bounds the number of paths
wide_bounds : (mode : Mode) (i : Instance) (lower : ℕ) (edges : List ℕ) → CountsPaths mode → length edges ≡ lower → IsAntichain i edges → IsLowerBound mode i lower
wide_bounds Exact i lower edges counts is antichain a meets = subst (λ n. n ≤ length a) is (antichains_bound i edges a antichain meets.0 meets.2)
wide_bounds Interval i lower edges counts is antichain a meets = subst (λ n. n ≤ length a) is (antichains_bound i edges a antichain meets.0 meets.2)
wide_bounds (Abs k) i lower edges counts is antichain a meets = absurd counts

-- a cut and a crowd leave no answer of error 0 that covers
cut_refutes : (mode : Mode) (i : Instance) (side : Side) (vertices : List ℕ) → IsInstance mode i → CountsPaths mode → IsCut i side vertices → IsInfeasible mode i
cut_refutes Exact i side vertices valid counts cut a meets = cuts_refute i side vertices a valid.net cut meets.0 meets.2
cut_refutes Interval i side vertices valid counts cut a meets = cuts_refute i side vertices a valid.net cut meets.0 meets.2
cut_refutes (Abs k) i side vertices valid counts cut a meets = counts

crowd_refutes : (mode : Mode) (i : Instance) (edge : ℕ) (rules : List ℕ) → CountsPaths mode → IsCrowd i edge rules → IsInfeasible mode i
crowd_refutes Exact i edge rules counts crowd a meets = crowds_refute i edge rules a crowd meets.0 meets.1 meets.2
crowd_refutes Interval i edge rules counts crowd a meets = crowds_refute i edge rules a crowd meets.0 meets.1 meets.2
crowd_refutes (Abs k) i edge rules counts crowd a meets = counts

module _ (mode : Mode) (i : Instance) (valid : IsInstance mode i) where
  -- nothing that meets is below a bound that a certificate shows
  bound_holds : (lower : ℕ) (cert : Cert) → ShowsBound mode i lower cert → IsLowerBound mode i lower
  bound_holds lower Zero is = λ a meets. omega (arith, is)
  bound_holds lower (Wide edges) shows = wide_bounds mode i lower edges shows.0 shows.1 shows.2
  bound_holds lower (Tree tree) shows = trees_bound mode i lower tree.tokens valid shows.1
  bound_holds lower (Cut side vertices) shows = absurd shows
  bound_holds lower (Crowd edge rules) shows = absurd shows

  -- nothing meets where a certificate shows it
  none_meets : (cert : Cert) → ShowsNone mode i cert → IsInfeasible mode i
  none_meets Zero shows = absurd shows
  none_meets (Wide edges) shows = absurd shows
  none_meets (Tree tree) shows = trees_refute_all mode i tree.tokens valid shows.1
  none_meets (Cut side vertices) shows = cut_refutes mode i side vertices valid shows.0 shows.1
  none_meets (Crowd edge rules) shows = crowd_refutes mode i edge rules shows.0 shows.1

  bounded_from : (lower : Option ℕ) (cert : Cert) → IsSomeAnd lower (λ n. ShowsBound mode i n cert) → IsSomeAnd lower (IsLowerBound mode i)
  bounded_from None cert shows = shows
  bounded_from (Some n) cert shows = bound_holds n cert shows

  -- paths whose value is the lower bound are best
  best_from : (lower upper : Option ℕ) (paths : List (List ℕ × ℕ)) (cert : Cert) → MarkFits Optimal lower upper → PathsFit mode i upper paths
      → IsSomeAnd lower (λ n. ShowsBound mode i n cert) → IsOptimal mode i paths
  best_from None upper paths cert equal fit shows = absurd equal
  best_from (Some n) upper paths cert equal fit shows =
      let now : PathsFit mode i (Some n) paths = subst (λ u. PathsFit mode i u paths) equal fit in
      record { meets = now.1; least = λ b meets. subst (λ m. m ≤ objective mode i b) (sym now.2) (bound_holds n cert shows b meets) }

  printed_from : (upper : Option ℕ) (paths : List (List ℕ × ℕ)) → PathsFit mode i upper paths → IfSome upper (λ u. Meets mode i paths × (objective mode i paths ≡ u))
  printed_from None paths fit = tt
  printed_from (Some u) paths fit = (fit.1, fit.2)

  runs_from : (safe : Option (List (List ℕ))) → SafeFits mode i safe → IfSome safe (AreMaximal (IsSafe i))
  runs_from None fit = tt
  runs_from (Some runs) fit = fit.1

  accepted_is_true : (s : Solved) → IsAcceptedSolved mode i s → IsTrueSolved mode i s
  accepted_is_true s accepted =
      let cert_for : (m : Mark) → s.mark ≡ m → CertFits mode i m s.lower s.cert = λ m is. subst (λ m. CertFits mode i m s.lower s.cert) is (accepted CertLine) in
      record {
        printed = printed_from s.upper s.paths (accepted UpperLine);
        unprinted = λ none. subst (λ u. PathsFit mode i u s.paths) none (accepted UpperLine);
        optimal = λ is. best_from s.lower s.upper s.paths s.cert (subst (λ m. MarkFits m s.lower s.upper) is (accepted MarkLine)) (accepted UpperLine) (cert_for Optimal is);
        infeasible = λ is. none_meets s.cert (cert_for Infeasible is);
        bounds = λ is. bounded_from s.lower s.cert (cert_for Bounds is);
        runs = runs_from s.safe (accepted SafeLine);
      }

  -- a body that is accepted is true
  pub body_is_true : (b : Body) → IsAcceptedBody mode i b → IsTrueReport mode i b
  body_is_true (Refused refusal) accepted = accepted
  body_is_true (SolvedBody s) accepted = accepted_is_true s accepted
