-- What is said of a graph whose weights have errors is right.
use Rattle.std.proofs.Common.{◌≡◌, ℕ, [], None, false, refl, sym, subst}
use Rattle.decomposition.specs.declared.Mode.TheVariants.{Abs}
use Rattle.decomposition.specs.Instance.{Instance, IsInstance}
use Rattle.decomposition.proofs.FewPaths.{trees_refute_all}
use Rattle.report_terms.specs.declared.report.Cert.TheVariants.{Tree}
use Rattle.report_terms.specs.declared.report.Mark.TheVariants.{Infeasible}
use Rattle.report_terms.specs.declared.report.Trail.{Trail}
use Rattle.flow_solver.specs.declared.searching.Attempt.TheVariants.{Refuted}
use Rattle.flow_solver.specs.declared.asked.Asked.{Asked}
use Rattle.flow_solver.specs.Right.{SolvedRight}
use Rattle.flow_solver.specs.Searched.{IsNoWorseThanBooked, IsRefutedBy, any_error}
use Rattle.flow_solver.proofs.CountedRight.{said}
use Rattle.flow_solver.proofs.PathsOnce.{nothing_once}

-- no k paths cover
pub right_never : (s : Asked) (k : ℕ) (i : Instance) (tree : Trail) → s.mode ≡ Abs k → s.safe ≡ false → IsInstance (Abs k) i → IsRefutedBy s.nodes i (any_error k) tree → IsNoWorseThanBooked k i (Refuted tree)
    → SolvedRight s i (said Infeasible None None [] (Tree tree) None None)
right_never s k i tree mode unsafe valid refuted never =
    let r = said Infeasible None None [] (Tree tree) None None in
    let here : SolvedRight (record s { mode = Abs k }) i r = record {
      paths = refl;
      once = nothing_once;
      few = tt;
      first = never;
      known = λ none. never;
      wide = tt;
      cut = λ ranges. absurd ranges;
      crowd = λ counts. absurd counts;
      marked = record { lower = refl; upper = refl; cert = record { decision = refuted.decision; refuted = refuted.refuted; few = refuted.few }; no_trail = refl };
      safe = (sym unsafe, tt);
      bound = tt;
      optimal = λ is. absurd (let no' : ⊥ = cc in no');
      infeasible = λ _. trees_refute_all (Abs k) i tree.tokens valid refuted.refuted;
    } in
    subst (λ m. SolvedRight (record s { mode = m }) i r) (sym mode) here
