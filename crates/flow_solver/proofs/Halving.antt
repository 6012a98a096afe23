-- Searches for less error, each for half of what lies between the bounds.
use Rattle.std.proofs.Common.{◌≡◌, ℕ, ◌+◌, ◌-◌, ◌*◌, ◌≤◌, ◌<◌, ◌^◌, List, [], ◌∷◌, Some, Result, Ok, Err, length, refl, ap, subst, ◌∙◌, inl, inr, arith}
use Rattle.std.specs.Prelude.{IfOk}
use Rattle.std.proofs.lemmas.Bool.{cases_Bool}
use Rattle.std.proofs.lemmas.List.{length-map}
use Rattle.decomposition.specs.declared.Mode.TheVariants.{Abs}
use Rattle.decomposition.specs.declared.Decision.{Decision}
use Rattle.decomposition.specs.Answer.{weight_on}
use Rattle.decomposition.specs.Certificates.{IsBoundingTree, decision_below}
use Rattle.decomposition.specs.FirstAnswer.{with_unit}
use Rattle.decomposition.specs.Graph.{edge_count, has_edge}
use Rattle.decomposition.specs.Instance.{Instance, IsInstance, error}
use Rattle.decomposition.specs.Tokens.{IsRefutation}
use Rattle.decomposition.proofs.Root.{trees_bound}
use Rattle.greedy_paths.specs.Booking.{AreBooked}
use Rattle.greedy_paths.specs.Laws.{BookedPathsAreOneList}
use Rattle.report_terms.specs.declared.report.Cert.{Cert}
use Rattle.report_terms.specs.declared.report.Cert.TheVariants.{Zero, Tree}
use Rattle.report_terms.specs.declared.report.Trail.{Trail}
use Rattle.flow_solver.specs.Booking.{AreBookedFor, upper_bound}
use Rattle.flow_solver.specs.declared.searching.Attempt.{Attempt}
use Rattle.flow_solver.specs.declared.searching.Attempt.TheVariants.{Found, Refuted, Spent}
use Rattle.flow_solver.specs.Halved.{IsBetween}
use Rattle.flow_solver.specs.Searched.{IsFoundFor, IsKnown, IsNoWorseThanBooked, IsRefutedAlone, IsRefutedBy, any_error}
use Rattle.flow_solver.proofs.Bounded.{entries_small, error-le}

-- the decision that asks for at most k paths with an error within a limit
abbrev pub half : ℕ → ℕ → Decision
half k limit = record { slots = k; limit = Some limit }

-- an answer to a decision with k slots is known in the model of k paths
known_by : (k : ℕ) (i : Instance) (d : Decision) (a : List (List ℕ × ℕ)) → k ≤ 64 → d.slots ≡ k → IsFoundFor i d a → IsKnown (Abs k) i a
known_by k i d a few same found = record {
  meets = (found.answer, found.covers, omega (arith, same, found.few));
  order = found.order;
  once = found.once;
  small = λ n entry there. omega (arith, few, same, entries_small i.graph (d.slots * 1000000000000) a found.answer (λ e inside. found.light e) n entry there);
}

-- the first answer, with no lower bound yet
pub between_first : (nodes k : ℕ) (i : Instance) (a : List (List ℕ × ℕ)) (upper : ℕ) → IsInstance (Abs k) i → edge_count i.graph ≤ 4096 → k ≤ 64 → IsFoundFor i (any_error k) a → error i a ≡ upper
    → IsBetween nodes k i a 0 upper Zero
between_first nodes k i a upper valid edges few found is = record {
  known = known_by k i (any_error k) a few refl found;
  upper_is = is;
  ordered = omega arith;
  small = omega (arith, is, edges, error-le (Abs k) i a 64000000000000 valid (λ e. omega (arith, few, found.light e)));
  shown = refl;
  speaks = tt;
  bound = λ b ok. omega arith;
}

pub error_small : (k : ℕ) (i : Instance) (a : List (List ℕ × ℕ)) → IsInstance (Abs k) i → edge_count i.graph ≤ 4096 → k ≤ 64 → IsFoundFor i (any_error k) a → error i a < 2 ^ 63
error_small k i a valid edges few found = omega (arith, edges, error-le (Abs k) i a 64000000000000 valid (λ e. omega (arith, few, found.light e)))

-- an answer with at most half of the error
pub between_found : (nodes k : ℕ) (i : Instance) (old a : List (List ℕ × ℕ)) (lower upper limit new : ℕ) (cert : Cert) → k ≤ 64 → IsBetween nodes k i old lower upper cert → limit ≤ upper → IsFoundFor i (half k limit) a → error i a ≡ new
    → IsBetween nodes k i a lower new cert
between_found nodes k i old a lower upper limit new cert few between low found is =
    let known = known_by k i (half k limit) a few refl found in
    record {
      known = known;
      upper_is = is;
      ordered = omega (arith, is, between.bound a known.meets);
      small = omega (arith, is, found.within, low, between.small);
      shown = between.shown;
      speaks = between.speaks;
      bound = between.bound;
    }

-- no answer has at most half of the error
pub between_refuted : (nodes k : ℕ) (i : Instance) (a : List (List ℕ × ℕ)) (lower upper limit : ℕ) (cert : Cert) (tree : Trail) → IsInstance (Abs k) i → IsBetween nodes k i a lower upper cert → limit < upper → IsRefutedBy nodes i (half k limit) tree
    → IsBetween nodes k i a (limit + 1) upper (Tree tree)
between_refuted nodes k i a lower upper limit cert tree valid between low refuted =
    let less : limit ≡ limit + 1 - 1 = omega arith in
    let same : half k limit ≡ decision_below (Abs k) i (limit + 1) = ap (half k) less in
    let bounding : IsBoundingTree (Abs k) i (limit + 1) tree.tokens = record { positive = omega arith; reach = tt; refuted = subst (λ d. IsRefutation i d tree.tokens) same refuted.refuted } in
    record {
      known = between.known;
      upper_is = between.upper_is;
      ordered = omega (arith, low);
      small = between.small;
      shown = record { decision = refuted.decision ∙ same; bounding = bounding; few = refuted.few; not_width = λ counts. absurd counts };
      speaks = refuted.small;
      bound = trees_bound (Abs k) i (limit + 1) tree.tokens valid bounding;
    }

-- the same for a tree of that decision
pub between_raised : (nodes k : ℕ) (i : Instance) (a : List (List ℕ × ℕ)) (lower upper limit : ℕ) (cert : Cert) (tree : Trail) → IsInstance (Abs k) i → IsBetween nodes k i a lower upper cert → limit < upper → IsRefutedAlone nodes i tree
    → tree.decision.slots ≡ k → tree.decision.limit ≡ Some limit → IsBetween nodes k i a (limit + 1) upper (Tree tree)
between_raised nodes k i a lower upper limit cert tree valid between low refuted slots is =
    let same : tree.decision ≡ half k limit = ap (λ l. record { slots = tree.decision.slots; limit = l }) is ∙ ap (λ n. half n limit) slots in
    between_refuted nodes k i a lower upper limit cert tree valid between low
    (record { decision = same; refuted = subst (λ d. IsRefutation i d tree.tokens) same refuted.refuted; few = refuted.few; small = refuted.small })

-- booked paths put on an edge at most as many units as there are
units-le : (ps : List (List ℕ)) (e : ℕ) → weight_on (with_unit ps) e ≤ length ps
units-le [] e = omega arith
units-le (p ∷ ps) e =
    elim (cases_Bool (has_edge p e)) [
      | inl h ↦ rw h (omega (arith, units-le ps e))
      | inr h ↦ rw h (omega (arith, units-le ps e))
    ]

length-with_unit : (ps : List (List ℕ)) → length (with_unit ps) ≡ length ps
length-with_unit ps = length-map ps (λ (p : List ℕ). (p, 1))

pub booked_units : (i : Instance) (f : ℕ → ℕ) (booked : List (List ℕ × ℕ)) → AreBooked i.graph f i.rules booked → (e : ℕ) → weight_on booked e ≤ length booked
booked_units i f booked (ps, is, books) e = omega (arith, ap (λ xs. weight_on xs e) is, units-le ps e, length-with_unit ps, ap length is)

-- an answer with no more error than the booked paths
pub booked_error : BookedPathsAreOneList → (k : ℕ) (i : Instance) (f : ℕ → ℕ) (booked new : List (List ℕ × ℕ)) → IsInstance (Abs k) i → ((e : ℕ) → f e ≡ upper_bound i e) → AreBooked i.graph f i.rules booked
    → error i new ≤ error i booked → IsNoWorseThanBooked k i (Found new)
booked_error one k i f booked new valid bounds (ps, is, books) nearer others other_books few =
    let equal : ps ≡ others = one i.graph f (upper_bound i) i.rules ps others bounds valid.runs books other_books in
    omega (arith, nearer, ap (error i) (is ∙ ap with_unit equal))

-- where more than k paths are booked, nothing is asked
not_asked : (k : ℕ) (i : Instance) (attempt : Attempt) → ((booked : List (List ℕ)) → AreBookedFor i booked → length booked ≤ k → ⊥) → IsNoWorseThanBooked k i attempt
not_asked k i (Found a) never = λ booked books few. absurd (never booked books few)
not_asked k i (Refuted tree) never = never
not_asked k i (Spent trail) never = never

too_many : BookedPathsAreOneList → (k : ℕ) (i : Instance) (f : ℕ → ℕ) (booked : List (List ℕ × ℕ)) (attempt : Attempt) → IsInstance (Abs k) i → ((e : ℕ) → f e ≡ upper_bound i e) → AreBooked i.graph f i.rules booked
    → k < length booked → IsNoWorseThanBooked k i attempt
too_many one k i f booked attempt valid bounds (ps, is, books) many =
    not_asked k i attempt
    (λ others other_books few. omega (arith, many, few, ap length is, length-with_unit ps, ap length (one i.graph f (upper_bound i) i.rules ps others bounds valid.runs books other_books)))

-- the same of what a search came to
pub too_many_if_ok : {E : Type 0} → BookedPathsAreOneList → (k : ℕ) (i : Instance) (f : ℕ → ℕ) (booked : List (List ℕ × ℕ)) (r : Result Attempt E) → IsInstance (Abs k) i → ((e : ℕ) → f e ≡ upper_bound i e) → AreBooked i.graph f i.rules booked
    → k < length booked → IfOk r (IsNoWorseThanBooked k i)
too_many_if_ok one k i f booked (Ok attempt) valid bounds are many = too_many one k i f booked attempt valid bounds are many
too_many_if_ok one k i f booked (Err e) valid bounds are many = tt
