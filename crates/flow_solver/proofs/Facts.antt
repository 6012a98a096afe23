-- What is known of a graph whose paths are counted, when the searches have ended.
use Rattle.std.proofs.Common.{◌≡◌, ℕ, ◌≤◌, List, Option, Bool, true, false, length, refl, sym, ◌∙◌}
use Rattle.std.specs.Prelude.{IfSome, IsSomeAnd}
use Rattle.decomposition.specs.declared.Mode.{Mode}
use Rattle.decomposition.specs.declared.Mode.TheVariants.{Exact}
use Rattle.decomposition.specs.Instance.{Instance, IsInstance}
use Rattle.decomposition.specs.Width.{IsAntichain, IsWidth}
use Rattle.report_terms.specs.NetFacts.{AreRisingEdges}
use Rattle.flow_solver.specs.declared.counting.Finding.{Finding}
use Rattle.flow_solver.specs.Firsts.{IsBeginning}
use Rattle.flow_solver.specs.declared.asked.Asked.{Asked}
use Rattle.flow_solver.specs.Right.{CountsPaths, HasRanges, NothingIsWithin}
use Rattle.flow_solver.specs.Asked.{MayBeAsked}
use Rattle.flow_solver.specs.Searched.{FindsAs, IsSolvedBy, count_of}
use Rattle.flow_solver.proofs.Beginnings.{first-kept, fits-kept}

pub solved_facts : (nodes : ℕ) (mode : Mode) (i : Instance) (es : List ℕ) (first : Option (List (List ℕ × ℕ))) (finding : Finding) → CountsPaths mode → IsInstance mode i → IsBeginning mode i first
    → IsWidth i (length es) → IsAntichain i es → AreRisingEdges i.graph es → FindsAs nodes i (length es) finding → IfSome first (λ a. IsSomeAnd (count_of finding) (λ count. count ≤ length a))
    → (HasRanges mode → NothingIsWithin i → ⊥) → IsSolvedBy nodes mode i es finding
solved_facts nodes mode i es first finding counts valid beginning wide chain rising finds fewer within = record {
  valid = valid;
  wide = wide;
  antichain = chain;
  rising = rising;
  finds = finds;
  first = first-kept mode i first (count_of finding) counts fewer beginning.at_most;
  known = fits-kept mode i first (count_of finding) fewer beginning.fits;
  within = within;
}

-- what is denied does not hold
denied : (b : Bool) → (b ≡ true → ⊥) → b ≡ false
denied true never = absurd (never refl)
denied false never = refl

-- in a model other than exact no safe runs are asked for
pub not_safe : (set : Asked) (mode : Mode) → MayBeAsked set → set.mode ≡ mode → (mode ≡ Exact → ⊥) → set.safe ≡ false
not_safe set mode ready is other = denied set.safe (λ safe. other (sym is ∙ ready.safe safe))
