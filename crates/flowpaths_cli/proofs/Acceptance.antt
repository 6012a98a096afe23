-- What a right report says is accepted, line by line.
use Rattle.std.proofs.Common.{◌≡◌, ◌<◌, ℕ, List, ◌∷◌, Option, Some, None, Ok, refl, sym, subst, arith}
use Rattle.std.specs.Prelude.{IfSome, IsSomeAnd}
use Rattle.cert_check.specs.Accepted.{MarkFits, PathsFit, ShowsBound, ShowsNone, CertFits, IsAsked, LeavesOpen, TrailFits, SafeFits}
use Rattle.cert_check.specs.Verdict.{IsAcceptedBody, IsAcceptedSolved}
use Rattle.cert_check.specs.Verdict.Line.{MarkLine, UpperLine, CertLine, TrailLine, SafeLine}
use Rattle.decomposition.specs.declared.Decision.{Decision}
use Rattle.decomposition.specs.declared.Mode.{Mode}
use Rattle.decomposition.specs.declared.Mode.TheVariants.{Exact, Interval, Abs}
use Rattle.decomposition.specs.Instance.{Instance}
use Rattle.decomposition.specs.Tokens.{boxes_left, IsTrail}
use Rattle.graph_text.specs.Reading.{instance_of}
use Rattle.graph_text.specs.declared.block.RawGraph.{RawGraph}
use Rattle.report_terms.specs.declared.report.Body.{Body}
use Rattle.report_terms.specs.declared.report.Body.TheVariants.{Refused, Solved as SolvedBody}
use Rattle.report_terms.specs.declared.report.Cert.{Cert}
use Rattle.report_terms.specs.declared.report.Cert.TheVariants.{Zero, Wide, Tree, Cut, Crowd}
use Rattle.report_terms.specs.declared.report.Mark.{Mark}
use Rattle.report_terms.specs.declared.report.Mark.TheVariants.{Optimal, Infeasible, Bounds}
use Rattle.report_terms.specs.declared.report.Solved.{Solved}
use Rattle.report_terms.specs.declared.report.Trail.{Trail}
use Rattle.flowpaths_cli.specs.AcceptedReports.{RightReportsAreAccepted, SolvedReportsAreAccepted}
use Rattle.flow_solver.specs.Right.{AreListed, ArePathsFor, CountsPaths, HasEachPathOnce, HasRanges, IsCertFor, IsCertOfNone, IsMarked, IsTrailFor, decision_between}
use Rattle.flowpaths_cli.specs.Asked.{asked_by}
use Rattle.flowpaths_cli.specs.Right.{AreBuilt, BodyRight, SolvedRight}
use Rattle.flowpaths_cli.specs.Solving.{AreForSolving}
use Rattle.flowpaths_cli.specs.declared.settings.Settings.{Settings}

-- where there are ranges, the number of paths is to be least
ranges_count : (mode : Mode) → HasRanges mode → CountsPaths mode
ranges_count Exact h = tt
ranges_count Interval h = tt
ranges_count (Abs k) h = h

mark_fits : (nodes : ℕ) (mode : Mode) (i : Instance) (s : Solved) (mark : Mark) → IsMarked nodes mode i s mark → MarkFits mark s.lower s.upper
mark_fits nodes mode i s Optimal h = subst (λ l. IsSomeAnd l (λ n. s.upper ≡ Some n)) (sym h.lower) h.upper
mark_fits nodes mode i s Infeasible h = (h.lower, h.upper)
mark_fits nodes mode i s Bounds h = subst (λ l. IsSomeAnd l (λ n. IfSome s.upper (λ u. n < u))) (sym h.lower) h.upper

paths_fit : (mode : Mode) (i : Instance) (upper : Option ℕ) (paths : List (List ℕ × ℕ)) → HasEachPathOnce paths → ArePathsFor mode i upper paths → PathsFit mode i upper paths
paths_fit mode i None paths once h = h
paths_fit mode i (Some upper) paths once h = (once, h.0, h.1)

shows_bound : (nodes : ℕ) (mode : Mode) (i : Instance) (lower : ℕ) (cert : Cert) → IsCertFor nodes mode i lower cert → ShowsBound mode i lower cert
shows_bound nodes mode i lower Zero h = h
shows_bound nodes mode i lower (Wide edges) h = (h.counts, h.counted, h.antichain)
shows_bound nodes mode i lower (Tree tree) h = (h.decision, h.bounding)
shows_bound nodes mode i lower (Cut side vertices) h = h
shows_bound nodes mode i lower (Crowd edge rules) h = h

shows_none : (nodes : ℕ) (mode : Mode) (i : Instance) (cert : Cert) → IsCertOfNone nodes mode i cert → ShowsNone mode i cert
shows_none nodes mode i Zero h = h
shows_none nodes mode i (Wide edges) h = h
shows_none nodes mode i (Tree tree) h = (h.decision, h.refuted)
shows_none nodes mode i (Cut side vertices) h = (ranges_count mode h.0, h.1)
shows_none nodes mode i (Crowd edge rules) h = (h.0, h.1)

cert_fits : (nodes : ℕ) (mode : Mode) (i : Instance) (s : Solved) (mark : Mark) → IsMarked nodes mode i s mark → CertFits mode i mark s.lower s.cert
cert_fits nodes mode i s Optimal h =
    subst (λ l. IsSomeAnd l (λ n. ShowsBound mode i n s.cert)) (sym h.lower) (shows_bound nodes mode i h.value s.cert h.cert)
cert_fits nodes mode i s Infeasible h = shows_none nodes mode i s.cert h.cert
cert_fits nodes mode i s Bounds h =
    subst (λ l. IsSomeAnd l (λ n. ShowsBound mode i n s.cert)) (sym h.lower) (shows_bound nodes mode i h.value s.cert h.cert)

-- a spent search was asked for what lies between the bounds
asked : (mode : Mode) (i : Instance) (lower : ℕ) (upper : Option ℕ) (d : Decision) → IfSome upper (λ u. lower < u) → d ≡ decision_between mode i lower upper → IsAsked mode i (Some lower) upper d
asked mode i lower None d below is = is
asked Exact i lower (Some upper) d below is = is
asked Interval i lower (Some upper) d below is = is
asked (Abs k) i lower (Some upper) d below is = subst (λ e. IsAsked (Abs k) i (Some lower) (Some upper) e) (sym is) (refl, (omega arith, omega arith))

-- the rule list of a spent search is legal, and leaves a box
leaves_open : (nodes : ℕ) (mode : Mode) (i : Instance) (lower : ℕ) (upper : Option ℕ) (t : Trail) → IfSome upper (λ u. lower < u) → IsTrailFor nodes mode i lower upper t → LeavesOpen mode i (Some lower) upper t
leaves_open nodes mode i lower upper t below h =
    let spent = h.spent in
    let trail : IsTrail i t.decision t.tokens = (
      spent.first,
      spent.others,
      subst (λ ts. boxes_left i t.decision ts ≡ Some (spent.first ∷ spent.others)) (sym h.tokens) spent.left,
    ) in
    (asked mode i lower upper t.decision below h.decision, trail)

each_some : (o : Option Trail) (P Q : Trail → Type 0) → ((t : Trail) → P t → Q t) → IsSomeAnd o P → IsSomeAnd o Q
each_some None P Q step h = h
each_some (Some t) P Q step h = step t h

trail_fits : (nodes : ℕ) (mode : Mode) (i : Instance) (s : Solved) (mark : Mark) → IsMarked nodes mode i s mark → TrailFits mode i mark s.lower s.upper s.trail
trail_fits nodes mode i s Optimal h = h.no_trail
trail_fits nodes mode i s Infeasible h = h.no_trail
trail_fits nodes mode i s Bounds h =
    subst (λ l. IsSomeAnd s.trail (λ t. LeavesOpen mode i l s.upper t)) (sym h.lower)
    (each_some s.trail (IsTrailFor nodes mode i h.value s.upper) (LeavesOpen mode i (Some h.value) s.upper) (λ t for. leaves_open nodes mode i h.value s.upper t h.upper for) h.trail)

safe_fits : (set : Settings) (i : Instance) (runs : Option (List (List ℕ))) → AreForSolving set → AreListed (asked_by set) i runs → SafeFits set.mode i runs
safe_fits set i None ready h = tt
safe_fits set i (Some runs) ready h = (ready.safe (sym h.0), h.1)

solved_accepted : (set : Settings) (i : Instance) (s : Solved) → AreForSolving set → SolvedRight set i s → IsAcceptedSolved set.mode i s
solved_accepted set i s ready right MarkLine = mark_fits set.nodes set.mode i s s.mark right.marked
solved_accepted set i s ready right UpperLine = paths_fit set.mode i s.upper s.paths right.once right.paths
solved_accepted set i s ready right CertLine = cert_fits set.nodes set.mode i s s.mark right.marked
solved_accepted set i s ready right TrailLine = trail_fits set.nodes set.mode i s s.mark right.marked
solved_accepted set i s ready right SafeLine = safe_fits set i s.safe ready right.safe

pub solved_reports_are_accepted : SolvedReportsAreAccepted
solved_reports_are_accepted s i solved report ready right mode body =
    record { model = mode; body = subst (IsAcceptedBody s.mode i) (sym body) (solved_accepted s i solved ready right) }

-- settings that are built serve to solve a graph
pub built_ready : (set : Settings) → AreBuilt set → AreForSolving set
built_ready set built = record { least = built.least; most = built.most; mode = built.mode; safe = built.safe }

body_accepted : (set : Settings) (graph : RawGraph) (body : Body) → AreBuilt set → BodyRight set (Ok graph) body → IsAcceptedBody set.mode (instance_of graph) body
body_accepted set graph (Refused refusal) built right = right
body_accepted set graph (SolvedBody s) built right = solved_accepted set (instance_of graph) s (built_ready set built) right

pub right_reports_are_accepted : RightReportsAreAccepted
right_reports_are_accepted s block graph report text built is_read right =
    let body : BodyRight s (Ok graph) report.body = subst (λ r. BodyRight s r report.body) is_read right.body_is in
    record { model = right.mode_is; body = body_accepted s graph report.body built body }
