-- What one search comes to, said of the instance and of the decision that it was given.
use Rattle.std.proofs.Common.{◌≡◌, ℕ, ◌*◌, ◌≤◌, ◌<◌, ◌^◌, List, [], ◌∷◌, Bool, true, false, cond, nat_le, nat_lt, length, refl, sym, subst, arith, leb-true, ltb-true}
use Rattle.std.specs.Prelude.{All, Some}
use Rattle.std.proofs.lemmas.List.Sums.{sum_by-le, sum_by-le-sum_by}
use Rattle.decomposition.specs.declared.Mode.{Mode}
use Rattle.decomposition.specs.declared.Decision.{Decision}
use Rattle.decomposition.specs.Graph.{has_edge}
use Rattle.decomposition.specs.Answer.{HaveSamePaths, IsMerged, IsInReportOrder, weight_on, total_weight}
use Rattle.decomposition.specs.Instance.{Instance, IsInstance, cap}
use Rattle.decomposition.specs.Certificates.{IsWithin}
use Rattle.decomposition.specs.Held.{Settles}
use Rattle.decomposition.specs.Tokens.{IsRefutation, boxes_left, rule_list}
use Rattle.decomposition.specs.Searches.{EndsRefuted, EndsSpent}
use Rattle.decomposition.proofs.FewPaths.{error-same}
use Rattle.decomposition.proofs.FirstAnswers.{merged_least}
use Rattle.decomposition.proofs.Merging.{Covers-same_paths, IsAnswer-same_paths, weight_on-where}
use Rattle.decomposition.proofs.Root.{all-place}
use Rattle.report_terms.specs.NetFacts.{IsSmall, IsSmallToken, IsSmallTrail}
use Rattle.report_terms.specs.declared.report.Trail.{Trail}
use Rattle.flow_solver.specs.Searched.{IsFoundFor, IsRefutedBy, IsSpentBy}
use Rattle.flow_solver.proofs.Bounded.{cap_small}
use Rattle.flow_solver.proofs.PathsOnce.{paths_once}
use Rattle.flow_solver.proofs.TokenPlaces.{tokens_small}

-- what is said of a search's own instance and decision holds of those that it was given
pub settles_for : (i j : Instance) (d e : Decision) (a : List (List ℕ × ℕ)) → j ≡ i → e ≡ d → ((mode : Mode) → IsInstance mode j → Settles j e a) → (mode : Mode) → IsInstance mode i → Settles i d a
settles_for i j d e a same also settles mode valid =
    subst (λ k. Settles k d a) same (subst (λ f. Settles j f a) also (settles mode (subst (IsInstance mode) (sym same) valid)))

-- its weights are together at most so many times the greatest weight of a text
total-light : (mode : Mode) (i : Instance) (d : Decision) (a : List (List ℕ × ℕ)) → IsInstance mode i → Settles i d a → total_weight a ≤ d.slots * 1000000000000
total-light mode i d a valid settles =
    let each : All (λ entry. entry.1 ≤ 1000000000000) a
    = λ k e there. omega (arith, cap_small mode i valid, leb-true _ _ (all-place (λ (entry : List ℕ × ℕ). nat_le entry.1 (cap i)) a e k settles.light there)) in
    let most = sum_by-le (λ (entry : List ℕ × ℕ). entry.1) 1000000000000 a each in
    omega (arith, most, settles.few)

pub settled_small : (mode : Mode) (i : Instance) (d : Decision) (a : List (List ℕ × ℕ)) → IsInstance mode i → d.slots ≤ 8192 → Settles i d a → total_weight a < 2 ^ 64
settled_small mode i d a valid few settles = omega (arith, total-light mode i d a valid settles, few)

-- no edge has more weight than all entries
part-le : (b : Bool) (n : ℕ) → cond b n 0 ≤ n
part-le true n = omega arith
part-le false n = omega arith

pub weight_on-le : (a : List (List ℕ × ℕ)) (e : ℕ) → weight_on a e ≤ total_weight a
weight_on-le a e =
    let parts = sum_by-le-sum_by (λ (x : List ℕ × ℕ). cond (has_edge x.0 e) x.1 0) (λ (x : List ℕ × ℕ). x.1) a (λ x. part-le (has_edge x.0 e) x.1) in
    omega (arith, parts, weight_on-where a e)

-- with equal paths made one, it is an answer in report order with no more paths
pub settled_found : (mode : Mode) (i : Instance) (d : Decision) (old new : List (List ℕ × ℕ)) → IsInstance mode i → Settles i d old
    → HaveSamePaths old new → IsMerged old new → ((e : ℕ) → weight_on new e ≡ weight_on old e) → IsInReportOrder new → IsFoundFor i d new
settled_found mode i d old new valid settles same merged kept order =
    let short : length new ≤ length old = merged_least new old merged.once merged.positive merged.same in
    record {
      answer = IsAnswer-same_paths i.graph old new same (λ k e there. ltb-true 0 _ (all-place (λ (entry : List ℕ × ℕ). nat_lt 0 entry.1) new e k merged.positive there)) settles.answer;
      covers = Covers-same_paths i.rules old new same settles.covers;
      few = omega (arith, short, settles.few);
      within = subst (IsWithin d.limit) (sym (error-same i old new (λ e inside. kept e))) settles.within;
      order = order;
      once = paths_once new merged.once;
      light = λ e. omega (arith, kept e, weight_on-le old e, total-light mode i d old valid settles);
    }

-- a decision and its tokens fit a report
trail_small : (d : Decision) (nodes : ℕ) (trail : Trail) → trail.decision ≡ d → d.slots < 2 ^ 32 → IsSmall d.limit → nodes < 2 ^ 64 → length trail.tokens ≤ nodes → All IsSmallToken trail.tokens → IsSmallTrail trail
trail_small d nodes trail asks few low most short small = record {
  slots = subst (λ (e : Decision). e.slots < 2 ^ 32) (sym asks) few;
  limit = subst (λ (e : Decision). IsSmall e.limit) (sym asks) low;
  tokens = small;
  few = omega (arith, short, most);
}

-- a refutation
pub refuted_by : (nodes : ℕ) (i : Instance) (d : Decision) (trail : Trail) → trail.decision ≡ d → d.slots < 2 ^ 32 → IsSmall d.limit → nodes < 2 ^ 64 → length i.rules < 2 ^ 32
    → length trail.tokens ≤ nodes → trail.tokens ≡ rule_list i d nodes → EndsRefuted i d nodes → IsRefutedBy nodes i d trail
refuted_by nodes i d trail asks few low most rules short is ends =
    let refuted = subst (IsRefutation i d) (sym is) ends in
    record {
      decision = asks;
      refuted = refuted;
      few = short;
      small = trail_small d nodes trail asks few low most short (tokens_small i d trail.tokens [] few rules refuted);
    }

-- a search that was spent
pub spent_by : (nodes : ℕ) (i : Instance) (d : Decision) (trail : Trail) → trail.decision ≡ d → d.slots < 2 ^ 32 → IsSmall d.limit → nodes < 2 ^ 64 → length i.rules < 2 ^ 32
    → length trail.tokens ≤ nodes → trail.tokens ≡ rule_list i d nodes → EndsSpent i d nodes → IsSpentBy nodes i d trail
spent_by nodes i d trail asks few low most rules short is spent =
    let left = subst (λ us. boxes_left i d us ≡ Some (spent.first ∷ spent.others)) (sym is) spent.left in
    record {
      decision = asks;
      tokens = is;
      spent = spent;
      small = trail_small d nodes trail asks few low most short (tokens_small i d trail.tokens (spent.first ∷ spent.others) few rules left);
    }

-- a refutation by any tokens
pub refuted_by_tokens : (nodes : ℕ) (i : Instance) (trail : Trail) → trail.decision.slots < 2 ^ 32 → IsSmall trail.decision.limit → nodes < 2 ^ 64 → length i.rules < 2 ^ 32
    → length trail.tokens ≤ nodes → IsRefutation i trail.decision trail.tokens → IsRefutedBy nodes i trail.decision trail
refuted_by_tokens nodes i trail few low most rules short refuted = record {
  decision = refl;
  refuted = refuted;
  few = short;
  small = trail_small trail.decision nodes trail refl few low most short (tokens_small i trail.decision trail.tokens [] few rules refuted);
}
