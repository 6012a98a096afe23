-- What was found for a graph whose paths are counted is right for it: by the width, by a refutation, by bounds, or that nothing meets.
use Rattle.std.proofs.Common.{◌≡◌, ℕ, ◌≤◌, ◌<◌, List, [], Option, Some, None, false, length, refl, sym, subst, ◌∙◌, arith, true≢false}
use Rattle.std.specs.Prelude.{IfSome}
use Rattle.decomposition.specs.declared.Mode.{Mode}
use Rattle.decomposition.specs.declared.Mode.TheVariants.{Exact, Interval, Abs}
use Rattle.decomposition.specs.declared.Token.{Token}
use Rattle.decomposition.specs.Instance.{Instance, IsInstance, IsLowerBound, IsOptimal, IsInfeasible}
use Rattle.decomposition.specs.Width.{IsWidth, IsAntichain}
use Rattle.decomposition.specs.Certificates.{IsBoundingTree, decision_below, decision_at_all}
use Rattle.decomposition.proofs.Antichains.{antichains_bound}
use Rattle.report_terms.specs.declared.report.Cert.{Cert}
use Rattle.report_terms.specs.declared.report.Cert.TheVariants.{Zero, Wide, Tree, Cut, Crowd}
use Rattle.report_terms.specs.declared.report.Mark.{Mark}
use Rattle.report_terms.specs.declared.report.Mark.TheVariants.{Optimal, Infeasible, Bounds}
use Rattle.report_terms.specs.declared.report.Solved.{Solved}
use Rattle.report_terms.specs.declared.report.Trail.{Trail}
use Rattle.flow_solver.specs.Booking.{IsAtMostFirst, IsKnownWhereBookedFit}
use Rattle.flow_solver.specs.declared.asked.Asked.{Asked}
use Rattle.flow_solver.specs.Right.{ArePathsFor, AreListed, CountsPaths, HasCrowdWhereFound, HasCutWhereDue, HasEachPathOnce, HasRanges, IsAtLeastWidth, IsCertFor, IsMarked, IsTrailFor, NothingIsWithin, SolvedRight, decision_between, is_cut}
use Rattle.flow_solver.specs.Searched.{AreFewPaths, IsKnown}
use Rattle.flow_solver.proofs.PathsOnce.{nothing_once}

-- a solved report
abbrev pub said : Mark → Option ℕ → Option ℕ → List (List ℕ × ℕ) → Cert → Option Trail → Option (List (List ℕ)) → Solved
said mark lower upper a cert trail runs = record { mark = mark; lower = lower; upper = upper; paths = a; cert = cert; trail = trail; safe = runs }

-- a valid instance of any model is one with ranges
pub with_ranges : (mode : Mode) (i : Instance) → IsInstance mode i → IsInstance Interval i
with_ranges mode i valid = record { net = valid.net; ranged = valid.ranged; bounded = valid.bounded; runs = valid.runs; distinct = valid.distinct; fits = tt }

-- the decisions of the models that count paths are the same
pub below_same : (mode : Mode) (i : Instance) (n : ℕ) → CountsPaths mode → decision_below Interval i n ≡ decision_below mode i n
below_same Exact i n counts = refl
below_same Interval i n counts = refl
below_same (Abs k) i n counts = absurd counts

pub all_same : (mode : Mode) (i : Instance) → CountsPaths mode → decision_at_all Interval i ≡ decision_at_all mode i
all_same Exact i counts = refl
all_same Interval i counts = refl
all_same (Abs k) i counts = absurd counts

pub between_same : (mode : Mode) (i : Instance) (lower upper : ℕ) → CountsPaths mode → decision_below Interval i upper ≡ decision_between mode i lower (Some upper)
between_same Exact i lower upper counts = refl
between_same Interval i lower upper counts = refl
between_same (Abs k) i lower upper counts = absurd counts

-- and so are their certificates
bounding_for : (mode : Mode) (i : Instance) (n : ℕ) (ts : List Token) → CountsPaths mode → IsBoundingTree Interval i n ts → IsBoundingTree mode i n ts
bounding_for Exact i n ts counts b = record { positive = b.positive; reach = b.reach; refuted = b.refuted }
bounding_for Interval i n ts counts b = b
bounding_for (Abs k) i n ts counts b = absurd counts

pub cert_for : (nodes : ℕ) (mode : Mode) (i : Instance) (n : ℕ) (cert : Cert) → CountsPaths mode → IsCertFor nodes Interval i n cert → IsCertFor nodes mode i n cert
cert_for nodes mode i n Zero counts shown = shown
cert_for nodes mode i n (Wide es) counts shown = record { counts = counts; positive = shown.positive; width = shown.width; antichain = shown.antichain; counted = shown.counted }
cert_for nodes mode i n (Tree tree) counts shown = record {
  decision = shown.decision ∙ below_same mode i n counts;
  bounding = bounding_for mode i n tree.tokens counts shown.bounding;
  few = shown.few;
  not_width = λ _. shown.not_width tt;
}
cert_for nodes mode i n (Cut side vertices) counts shown = shown
cert_for nodes mode i n (Crowd e rules) counts shown = shown

-- What is known of a report on a graph whose paths are counted, whatever the model.
pub record IsCounted (mode : Mode) (nodes : ℕ) (i : Instance) (r : Solved) : Type 0 where
  pub paths : ArePathsFor Interval i r.upper r.paths
  pub once : HasEachPathOnce r.paths
  pub few : AreFewPaths i r.paths
  pub first : IsAtMostFirst mode i r.upper
  pub known : IsKnownWhereBookedFit mode i r.upper
  pub wide : IfSome r.lower (IsAtLeastWidth Interval i)
  pub cut : HasCutWhereDue mode i r.cert
  pub crowd : HasCrowdWhereFound mode i r.upper r.cert
  pub marked : IsMarked nodes mode i r r.mark
  pub bound : IfSome r.lower (IsLowerBound Interval i)
  pub optimal : r.mark ≡ Optimal → IsOptimal Interval i r.paths
  pub infeasible : r.mark ≡ Infeasible → IsInfeasible Interval i

paths_exact : (i : Instance) (upper : Option ℕ) (a : List (List ℕ × ℕ)) → ArePathsFor Interval i upper a → ArePathsFor Exact i upper a
paths_exact i None a are = are
paths_exact i (Some u) a are = are

-- it is right
pub right_for : (mode : Mode) (set : Asked) (i : Instance) (r : Solved) → CountsPaths mode → IsCounted mode set.nodes i r → AreListed set i r.safe → SolvedRight (record set { mode = mode }) i r
right_for Exact set i r counts c listed = record {
  paths = paths_exact i r.upper r.paths c.paths;
  once = c.once;
  few = c.few;
  first = c.first;
  known = c.known;
  wide = c.wide;
  cut = c.cut;
  crowd = c.crowd;
  marked = c.marked;
  safe = listed;
  bound = c.bound;
  optimal = λ is. let best = c.optimal is in record { meets = best.meets; least = best.least };
  infeasible = c.infeasible;
}
right_for Interval set i r counts c listed = record {
  paths = c.paths;
  once = c.once;
  few = c.few;
  first = c.first;
  known = c.known;
  wide = c.wide;
  cut = c.cut;
  crowd = c.crowd;
  marked = c.marked;
  safe = listed;
  bound = c.bound;
  optimal = c.optimal;
  infeasible = c.infeasible;
}
right_for (Abs k) set i r counts c listed = absurd counts

-- where weighted paths lie within the ranges, a certificate that is no cut stands where it should
pub no_cut : (mode : Mode) (i : Instance) (cert : Cert) → is_cut cert ≡ false → (HasRanges mode → NothingIsWithin i → ⊥) → HasCutWhereDue mode i cert
no_cut mode i cert other within ranges = (λ is. absurd (true≢false (sym is ∙ other)), λ none. absurd (within ranges none))

-- the width bounds the number of paths of everything that meets
pub width_bounds : (i : Instance) (es : List ℕ) → IsAntichain i es → IsLowerBound Interval i (length es)
width_bounds i es chain b ok = antichains_bound i es b chain ok.0 ok.2

-- an instance has one width
pub one_width : (i : Instance) (m n : ℕ) → IsWidth i m → IsWidth i n → m ≡ n
one_width i m n a b =
    let up = b.greatest a.reached.0 a.reached.1 in
    let down = a.greatest b.reached.0 b.reached.1 in
    omega (arith, up, down, a.reached.2, b.reached.2)

at_least_width : (i : Instance) (es : List ℕ) (lower : ℕ) → IsWidth i (length es) → length es ≤ lower → IsAtLeastWidth Interval i lower
at_least_width i es lower wide above counts fs chain = omega (arith, wide.greatest fs chain, above)

-- an answer that no answer is below is best
best : (i : Instance) (a : List (List ℕ × ℕ)) (lower : ℕ) → IsKnown Interval i a → IsLowerBound Interval i lower → lower ≡ length a → IsOptimal Interval i a
best i a lower known bound equal = record { meets = known.meets; least = λ b ok. omega (arith, bound b ok, equal) }

-- an answer whose number of paths is shown to be least
pub counted_optimal : (mode : Mode) (nodes : ℕ) (i : Instance) (a : List (List ℕ × ℕ)) (es : List ℕ) (value : ℕ) (cert : Cert) (runs : Option (List (List ℕ)))
    → IsKnown Interval i a → AreFewPaths i a → IsAtMostFirst mode i (Some (length a)) → IsKnownWhereBookedFit mode i (Some (length a)) → IsWidth i (length es)
    → length es ≤ value → value ≡ length a → IsLowerBound Interval i value → IsCertFor nodes mode i value cert → HasCutWhereDue mode i cert
    → IsCounted mode nodes i (said Optimal (Some value) (Some value) a cert None runs)
counted_optimal mode nodes i a es value cert runs known few first fits wide above equal bound shown cut = record {
  paths = (known.meets, sym equal);
  once = known.once;
  few = few;
  first = subst (λ n. IsAtMostFirst mode i (Some n)) (sym equal) first;
  known = λ none. absurd (let no' : ⊥ = cc in no');
  wide = at_least_width i es value wide above;
  cut = cut;
  crowd = λ _ none. absurd (let no' : ⊥ = cc in no');
  marked = record { value = value; lower = refl; upper = refl; cert = shown; no_trail = refl };
  bound = bound;
  optimal = λ _. best i a value known bound equal;
  infeasible = λ is. absurd (let no' : ⊥ = cc in no');
}

-- an answer and a lower bound, with the trail of the search that was spent
pub counted_bounds : (mode : Mode) (nodes : ℕ) (i : Instance) (es : List ℕ) (value : ℕ) (upper : Option ℕ) (a : List (List ℕ × ℕ)) (cert : Cert) (trail : Trail) (runs : Option (List (List ℕ)))
    → ArePathsFor Interval i upper a → HasEachPathOnce a → AreFewPaths i a → IsAtMostFirst mode i upper → IsKnownWhereBookedFit mode i upper → IsWidth i (length es)
    → length es ≤ value → IsLowerBound Interval i value → IfSome upper (λ u. value < u) → IsCertFor nodes mode i value cert → HasCutWhereDue mode i cert → HasCrowdWhereFound mode i upper cert → IsTrailFor nodes mode i value upper trail
    → IsCounted mode nodes i (said Bounds (Some value) upper a cert (Some trail) runs)
counted_bounds mode nodes i es value upper a cert trail runs are once few first fits wide many bound above shown cut crowd spent = record {
  paths = are;
  once = once;
  few = few;
  first = first;
  known = fits;
  wide = at_least_width i es value wide many;
  cut = cut;
  crowd = crowd;
  marked = record { value = value; lower = refl; upper = above; cert = shown; trail = spent };
  bound = bound;
  optimal = λ is. absurd (let no' : ⊥ = cc in no');
  infeasible = λ is. absurd (let no' : ⊥ = cc in no');
}

-- no answer, and what shows that nothing meets
pub counted_none : (mode : Mode) (nodes : ℕ) (i : Instance) (cert : Cert) (runs : Option (List (List ℕ)))
    → IsAtMostFirst mode i None → IsKnownWhereBookedFit mode i None → IsMarked nodes mode i (said Infeasible None None [] cert None runs) Infeasible → HasCutWhereDue mode i cert → HasCrowdWhereFound mode i None cert → IsInfeasible Interval i
    → IsCounted mode nodes i (said Infeasible None None [] cert None runs)
counted_none mode nodes i cert runs first fits marked cut crowd never = record {
  paths = refl;
  once = nothing_once;
  few = omega arith;
  first = first;
  known = fits;
  wide = tt;
  cut = cut;
  crowd = crowd;
  marked = marked;
  bound = tt;
  optimal = λ is. absurd (let no' : ⊥ = cc in no');
  infeasible = λ _. never;
}
