-- What the searches for few paths found is right of the graph, and speaks of it.
use Rattle.std.proofs.Common.{◌≡◌, ℕ, ◌+◌, ◌≤◌, ◌<◌, ◌^◌, List, [], Option, Some, None, false, ◌&&◌, nat_le, length, refl, sym, subst, ◌∙◌, inl, inr, arith, leb-true}
use Rattle.std.specs.Prelude.{All, IfSome}
use Rattle.std.proofs.lemmas.Bool.{and_parts}
use Rattle.decomposition.specs.declared.Mode.{Mode}
use Rattle.decomposition.specs.declared.Mode.TheVariants.{Exact, Interval}
use Rattle.decomposition.specs.declared.Side.{Side}
use Rattle.decomposition.specs.declared.Decision.{Decision}
use Rattle.decomposition.specs.Answer.{IsAnswer, IsInReportOrder}
use Rattle.decomposition.specs.Certificates.{IsBoundingTree, IsCut, decision_below, decision_at_all}
use Rattle.decomposition.specs.Graph.{Graph, edge_count, is_path}
use Rattle.decomposition.specs.Instance.{Instance, IsInstance, IsLowerBound, lower_bound}
use Rattle.decomposition.specs.Searches.{EndsSpent}
use Rattle.decomposition.specs.Tokens.{IsRefutation, rule_list}
use Rattle.decomposition.proofs.Crowds.{crowds_refute}
use Rattle.decomposition.proofs.Cuts.{cuts_refute}
use Rattle.decomposition.proofs.Excess.{error-from_decomposes}
use Rattle.decomposition.proofs.FewPaths.{flows_decompose, trees_refute_all}
use Rattle.decomposition.proofs.Root.{all-place, trees_bound}
use Rattle.report_terms.specs.NetFacts.{AreRisingRuns, HasTrail, IsCertOf, IsEntryOf, IsFoundIn, IsSmall, IsSmallTrail}
use Rattle.report_terms.specs.declared.report.Cert.{Cert}
use Rattle.report_terms.specs.declared.report.Cert.TheVariants.{Tree, Cut, Crowd}
use Rattle.report_terms.specs.declared.report.Mark.{Mark}
use Rattle.report_terms.specs.declared.report.Mark.TheVariants.{Optimal, Infeasible, Bounds}
use Rattle.report_terms.specs.declared.report.Trail.{Trail}
use Rattle.flow_solver.specs.declared.counting.Ending.TheVariants.{Width, Refuted, Spent}
use Rattle.flow_solver.specs.declared.counting.Finding.TheVariants.{Known, Crowded, Never, Open}
use Rattle.flow_solver.specs.Booking.{IsAtMostFirst}
use Rattle.flow_solver.specs.declared.asked.Asked.{Asked}
use Rattle.flow_solver.specs.Right.{AreListed, CountsPaths, IsCertFor, IsTrailFor, NothingIsWithin, SolvedRight, decision_between, is_cut}
use Rattle.flow_solver.specs.Searched.{IsRaised, IsRaisedWithin, IsSolvedBy, IsSpentBy, floor_of}
use Rattle.flow_solver.proofs.CountedRight.{said, all_same, between_same, cert_for, counted_bounds, counted_none, counted_optimal, no_cut, right_for, width_bounds, with_ranges, one_width}
use Rattle.flow_solver.proofs.Floors.{floor_above, floor_bounds}
use Rattle.flow_solver.proofs.PathsOnce.{nothing_once}

-- a search that was spent shows a trail for its decision
pub trail_for : (nodes : ℕ) (mode : Mode) (i : Instance) (d : Decision) (lower : ℕ) (upper : Option ℕ) (trail : Trail) → IsSpentBy nodes i d trail → d ≡ decision_between mode i lower upper → IsTrailFor nodes mode i lower upper trail
trail_for nodes mode i d lower upper trail spent is = record {
  decision = spent.decision ∙ is;
  tokens = subst (λ e. trail.tokens ≡ rule_list i e nodes) (sym spent.decision) spent.tokens;
  spent = subst (λ e. EndsSpent i e nodes) (sym spent.decision) spent.spent;
}

-- there are as many paths as the width
pub right_by_width : (s : Asked) (i : Instance) (a : List (List ℕ × ℕ)) (es : List ℕ) (lower upper : ℕ) (cert : Cert) (runs : Option (List (List ℕ))) → CountsPaths s.mode → AreListed s i runs → IsSolvedBy s.nodes s.mode i es (Known a Width)
    → upper ≡ length a → lower ≡ length es → IsCertFor s.nodes Interval i (length es) cert → is_cut cert ≡ false → SolvedRight s i (said Optimal (Some lower) (Some upper) a cert None runs)
right_by_width s i a es lower upper cert runs counts listed by counted many shown other =
    let known = by.finds.0 in
    let bound = width_bounds i es by.antichain in
    let equal : lower ≡ upper = omega (arith, counted, many, by.finds.2, bound a known.meets) in
    let facts = counted_optimal s.mode s.nodes i a es lower cert runs known by.finds.1 by.first by.known by.wide (omega (arith, many)) (equal ∙ counted)
    (subst (IsLowerBound Interval i) (sym many) bound) (cert_for s.nodes s.mode i lower cert counts (subst (λ n. IsCertFor s.nodes Interval i n cert) (sym many) shown)) (no_cut s.mode i cert other by.within) in
    subst (λ n. SolvedRight s i (said Optimal (Some lower) (Some n) a cert None runs)) equal (right_for s.mode s i _ counts facts listed)

-- one path fewer is refuted
pub right_by_tree : (s : Asked) (i : Instance) (a : List (List ℕ × ℕ)) (es : List ℕ) (upper : ℕ) (tree : Trail) (runs : Option (List (List ℕ))) → CountsPaths s.mode → AreListed s i runs → IsSolvedBy s.nodes s.mode i es (Known a (Refuted tree))
    → upper ≡ length a → SolvedRight s i (said Optimal (Some upper) (Some upper) a (Tree tree) None runs)
right_by_tree s i a es upper tree runs counts listed by counted =
    let known = by.finds.0 in
    let more : length es < length a = by.finds.2.0 in
    let refuted = by.finds.2.1 in
    let bounding : IsBoundingTree Interval i (length a) tree.tokens = record { positive = omega (arith, more); reach = by.finds.1; refuted = refuted.refuted } in
    let shown : IsCertFor s.nodes Interval i (length a) (Tree tree) = record {
      decision = refuted.decision;
      bounding = bounding;
      few = refuted.few;
      not_width = λ _ wide. omega (arith, more, one_width i (length a) (length es) wide by.wide);
    } in
    let facts = counted_optimal s.mode s.nodes i a es upper (Tree tree) runs known by.finds.1 by.first by.known by.wide (omega (arith, more, counted)) counted
    (subst (IsLowerBound Interval i) (sym counted) (trees_bound Interval i (length a) tree.tokens (with_ranges s.mode i by.valid) bounding))
    (cert_for s.nodes s.mode i upper (Tree tree) counts (subst (λ n. IsCertFor s.nodes Interval i n (Tree tree)) (sym counted) shown)) (no_cut s.mode i (Tree tree) refl by.within) in
    right_for s.mode s i _ counts facts listed

-- what is refuted where a search was spent, of as many paths as the width or more
raised_within : (nodes : ℕ) (i : Instance) (width count : ℕ) (raised : Option Trail) → count ≤ edge_count i.graph + length i.rules
    → IfSome raised (λ tree. IsRaised nodes i width tree × (tree.decision.slots + 1 < count)) → IfSome raised (IsRaisedWithin nodes i width)
raised_within nodes i width count None few raised = tt
raised_within nodes i width count (Some tree) few raised = (raised.0, omega (arith, few, raised.1))

raised_alone : (nodes : ℕ) (i : Instance) (width : ℕ) (raised : Option Trail) → IfSome raised (IsRaisedWithin nodes i width) → IfSome raised (IsRaised nodes i width)
raised_alone nodes i width None raised = tt
raised_alone nodes i width (Some tree) raised = raised.0

raised_below : (nodes : ℕ) (i : Instance) (width count : ℕ) (raised : Option Trail) → width < count → IfSome raised (λ tree. IsRaised nodes i width tree × (tree.decision.slots + 1 < count)) → floor_of width raised < count
raised_below nodes i width count None more raised = more
raised_below nodes i width count (Some tree) more raised = raised.1

-- their trees fit a report
pub raised_small : (nodes : ℕ) (i : Instance) (width : ℕ) (raised : Option Trail) → IfSome raised (IsRaisedWithin nodes i width) → IfSome raised IsSmallTrail
raised_small nodes i width None raised = tt
raised_small nodes i width (Some tree) raised = raised.0.refuted.small

-- what was raised of a graph whose search for one path fewer was spent
pub raised_at_known : (nodes : ℕ) (mode : Mode) (i : Instance) (a : List (List ℕ × ℕ)) (es : List ℕ) (trail : Trail) (raised : Option Trail) → IsSolvedBy nodes mode i es (Known a (Spent trail raised)) → IfSome raised (IsRaisedWithin nodes i (length es))
raised_at_known nodes mode i a es trail raised by = raised_within nodes i (length es) (length a) raised by.finds.1 by.finds.2.2

-- the search for one path fewer was spent
pub right_by_trail : (s : Asked) (i : Instance) (a : List (List ℕ × ℕ)) (es : List ℕ) (lower upper : ℕ) (cert : Cert) (trail : Trail) (raised : Option Trail) (runs : Option (List (List ℕ))) → CountsPaths s.mode → AreListed s i runs → IsSolvedBy s.nodes s.mode i es (Known a (Spent trail raised))
    → upper ≡ length a → lower ≡ floor_of (length es) raised → IsCertFor s.nodes Interval i (floor_of (length es) raised) cert → is_cut cert ≡ false → SolvedRight s i (said Bounds (Some lower) (Some upper) a cert (Some trail) runs)
right_by_trail s i a es lower upper cert trail raised runs counts listed by counted many shown other =
    let within = raised_within s.nodes i (length es) (length a) raised by.finds.1 by.finds.2.2 in
    let alone = raised_alone s.nodes i (length es) raised within in
    let bound = floor_bounds s.nodes i es raised (with_ranges s.mode i by.valid) by.antichain alone in
    let spent = trail_for s.nodes s.mode i (decision_below Interval i (length a)) lower (Some (length a)) trail by.finds.2.1 (between_same s.mode i lower (length a) counts) in
    let facts = counted_bounds s.mode s.nodes i es lower (Some (length a)) a cert trail runs (by.finds.0.meets, refl) by.finds.0.once by.finds.1 by.first by.known by.wide
    (omega (arith, many, floor_above s.nodes i (length es) raised alone)) (subst (IsLowerBound Interval i) (sym many) bound) (omega (arith, many, raised_below s.nodes i (length es) (length a) raised by.finds.2.0 by.finds.2.2))
    (cert_for s.nodes s.mode i lower cert counts (subst (λ n. IsCertFor s.nodes Interval i n cert) (sym many) shown)) (no_cut s.mode i cert other by.within) (λ _ none. absurd (let no' : ⊥ = cc in no')) spent in
    subst (λ n. SolvedRight s i (said Bounds (Some lower) (Some n) a cert (Some trail) runs)) (sym counted) (right_for s.mode s i _ counts facts listed)

-- no answer is known, and the search for any was spent
pub right_by_open : (s : Asked) (i : Instance) (es : List ℕ) (lower : ℕ) (cert : Cert) (trail : Trail) (raised : Option Trail) (runs : Option (List (List ℕ))) → CountsPaths s.mode → AreListed s i runs → IsSolvedBy s.nodes s.mode i es (Open trail raised)
    → lower ≡ floor_of (length es) raised → IsCertFor s.nodes Interval i (floor_of (length es) raised) cert → is_cut cert ≡ false → SolvedRight s i (said Bounds (Some lower) None [] cert (Some trail) runs)
right_by_open s i es lower cert trail raised runs counts listed by many shown other =
    let alone = raised_alone s.nodes i (length es) raised by.finds.2 in
    let bound = floor_bounds s.nodes i es raised (with_ranges s.mode i by.valid) by.antichain alone in
    let spent = trail_for s.nodes s.mode i (decision_at_all Interval i) lower None trail by.finds.0 (all_same s.mode i counts) in
    let facts = counted_bounds s.mode s.nodes i es lower None [] cert trail runs refl nothing_once (omega arith) by.first by.known by.wide
    (omega (arith, many, floor_above s.nodes i (length es) raised alone)) (subst (IsLowerBound Interval i) (sym many) bound) tt
    (cert_for s.nodes s.mode i lower cert counts (subst (λ n. IsCertFor s.nodes Interval i n cert) (sym many) shown)) (no_cut s.mode i cert other by.within) (λ _ _. inr by.finds.1) spent in
    right_for s.mode s i _ counts facts listed

-- there is a crowd
pub right_by_crowd : (s : Asked) (i : Instance) (es : List ℕ) (e : ℕ) (cs : List ℕ) (runs : Option (List (List ℕ))) → CountsPaths s.mode → AreListed s i runs → IsSolvedBy s.nodes s.mode i es (Crowded e cs)
    → SolvedRight s i (said Infeasible None None [] (Crowd e cs) None runs)
right_by_crowd s i es e cs runs counts listed by =
    let facts = counted_none s.mode s.nodes i (Crowd e cs) runs by.first by.known (record { lower = refl; upper = refl; cert = (counts, by.finds.0); no_trail = refl }) (no_cut s.mode i (Crowd e cs) refl by.within) (λ _ _. inl refl)
    (λ b ok. crowds_refute i e cs b by.finds.0 ok.0 ok.1 ok.2) in
    right_for s.mode s i _ counts facts listed

-- as many paths as can be needed are refuted
pub right_by_never : (s : Asked) (i : Instance) (es : List ℕ) (tree : Trail) (runs : Option (List (List ℕ))) → CountsPaths s.mode → AreListed s i runs → IsSolvedBy s.nodes s.mode i es (Never tree)
    → SolvedRight s i (said Infeasible None None [] (Tree tree) None runs)
right_by_never s i es tree runs counts listed by =
    let same = all_same s.mode i counts in
    let facts = counted_none s.mode s.nodes i (Tree tree) runs by.first by.known
    (record { lower = refl; upper = refl; no_trail = refl; cert = record { decision = by.finds.0.decision ∙ same; refuted = subst (λ d. IsRefutation i d tree.tokens) same by.finds.0.refuted; few = by.finds.0.few } })
    (no_cut s.mode i (Tree tree) refl by.within) (λ _ _. inr by.finds.1)
    (trees_refute_all Interval i tree.tokens (with_ranges s.mode i by.valid) by.finds.0.refuted) in
    right_for s.mode s i _ counts facts listed

-- the ranges have a cut
pub right_by_cut : (s : Asked) (i : Instance) (side : Side) (xs : List ℕ) → s.mode ≡ Interval → s.safe ≡ false → IsInstance Interval i → IsCut i side xs
    → SolvedRight s i (said Infeasible None None [] (Cut side xs) None None)
right_by_cut s i side xs mode unsafe valid cut =
    let none : NothingIsWithin i = λ a answer zero_error. cuts_refute i side xs a valid.net cut answer zero_error in
    let first : IsAtMostFirst Interval i None
    = λ fits b is.
    let made = flows_decompose i.graph (lower_bound i) valid.net fits.1 in
    let exact : IsInstance Exact i = record { net = valid.net; ranged = valid.ranged; bounded = valid.bounded; runs = valid.runs; distinct = valid.distinct; fits = fits } in
    none made.0 made.1.answer (error-from_decomposes i exact made.0 made.1) in
    let facts = counted_none Interval s.nodes i (Cut side xs) None first (λ no_upper booked books (a, room). none a room.answer room.within)
    (record { lower = refl; upper = refl; cert = (tt, cut); no_trail = refl }) (λ ranges. (λ is. none, λ nothing. refl)) (λ _ _. inl refl) (λ b ok. none b ok.0 ok.2) in
    subst (λ m. SolvedRight (record s { mode = m }) i (said Infeasible None None [] (Cut side xs) None None)) (sym mode) (right_for Interval s i _ tt facts (sym unsafe, tt))

-- the entries of an answer fit a report
entries_fit : (g : Graph) (a : List (List ℕ × ℕ)) → IsAnswer g a → All (λ entry. entry.1 < 2 ^ 64) a → All (IsEntryOf g) a
entries_fit g a answer small k d there =
    let parts = and_parts _ _ (all-place (λ (entry : List ℕ × ℕ). is_path g entry.0 && nat_le 1 entry.1) a d k answer there) in
    record { path = parts.0; positive = leb-true _ _ parts.1; small = small k d there }

-- what is said of an answer speaks of the graph
pub found_in : (i : Instance) (a : List (List ℕ × ℕ)) (mark : Mark) (lower upper : ℕ) (cert : Cert) (trail : Option Trail) (runs : Option (List (List ℕ)))
    → IsAnswer i.graph a → IsInReportOrder a → All (λ entry. entry.1 < 2 ^ 64) a → IfSome runs (AreRisingRuns i.graph) → lower < 2 ^ 64 → upper < 2 ^ 64 → IsCertOf i.graph cert → HasTrail mark trail
    → IsFoundIn i.graph (said mark (Some lower) (Some upper) a cert trail runs)
found_in i a mark lower upper cert trail runs answer order small rising low high shown has = record {
  lower = low;
  upper = high;
  paths = entries_fit i.graph a answer small;
  order = order;
  cert = shown;
  trail = has;
  safe = rising;
}

-- and what is said without one
pub none_in : (g : Graph) (mark : Mark) (lower : Option ℕ) (cert : Cert) (trail : Option Trail) (runs : Option (List (List ℕ)))
    → IfSome runs (AreRisingRuns g) → IsSmall lower → IsCertOf g cert → HasTrail mark trail → IsFoundIn g (said mark lower None [] cert trail runs)
none_in g mark lower cert trail runs rising low shown has = record {
  lower = low;
  upper = tt;
  paths = λ k d there. absurd (omega (arith, there));
  order = refl;
  cert = shown;
  trail = has;
  safe = rising;
}
