-- One unit less, by a search that has reached a sink.
use Rattle.std.proofs.Common.{◌≡◌, ◌≢◌, ℕ, ◌+◌, ◌*◌, zero, suc, ◌<◌, ◌≤◌, Bool, true, false, not, cond, List, length, None, Some, refl, sym, ap, subst, ◌∙◌, arith, inl, inr}
use Rattle.std.specs.Prelude.{IsTrue}
use Rattle.std.proofs.lemmas.Bool.{cases_eq, not-true}
use Rattle.decomposition.specs.Graph.{Graph, edge_count, tail, head, is_source, is_sink}
use Rattle.decomposition.specs.Answer.{sum_below}
use Rattle.decomposition.proofs.Flows.{tail-no_sink}
use Rattle.path_cover.specs.Carrying.{least_flow, most_at_first, IsCarrying, IsBalancedBut, arriving}
use Rattle.path_cover.specs.Search.{entry_at, IsStepFrom, IsReached, IsSearch, EndsAt}
use Rattle.path_cover.specs.declared.search.Reached.{Reached}
use Rattle.path_cover.specs.declared.search.Search.{Search}
use Rattle.path_cover.proofs.Moves.{IsRaised, arriving-raised, raise-onward, lower-back, IsBalancedBut-same, IsBalanced-from_but, source-outer, sink-outer}

-- the unit is taken off from the sink back to the entry at place `at`
pub record TakesUnit (g : Graph) (needed : ℕ → Bool) (old : ℕ → ℕ) (entries : List Reached) (last : ℕ) (flow : ℕ → ℕ) (at : ℕ) : Type 0 where
  pub within : at ≤ last
  pub balance : IsBalancedBut g flow (entry_at entries last).vertex (entry_at entries at).vertex
  pub enough : (e : ℕ) → e < edge_count g → least_flow needed e ≤ flow e
  pub spare : (k e from : ℕ) → k ≤ at → (entry_at entries k).way ≡ Some (e, from) → head g e ≡ (entry_at entries k).vertex → least_flow needed e < flow e
  pub arrives : arriving g flow + 1 ≡ arriving g old + cond (is_sink g (entry_at entries at).vertex) 1 0
  pub few : (e : ℕ) → flow e + at ≤ old e + last

module _ (g : Graph) (needed : ℕ → Bool) (old : ℕ → ℕ) (entries : List Reached) (marked : List Bool) (search : IsSearch g needed old entries marked) where
  -- the step by which an entry was reached
  pub step-at : (k e from : ℕ) → k < length entries → (entry_at entries k).way ≡ Some (e, from) → IsStepFrom g needed old entries k (entry_at entries k).vertex e from
  step-at k e from h way = subst (λ w. IsReached g needed old entries k (entry_at entries k).vertex w) way (search.reached k h)

  -- an entry that was not reached by a step is a source, and no sink
  pub start-at : (k : ℕ) → k < length entries → (entry_at entries k).way ≡ None → (is_source g (entry_at entries k).vertex ≡ true) × (is_sink g (entry_at entries k).vertex ≡ false)
  start-at k h way =
      let is : IsTrue (is_source g (entry_at entries k).vertex) × IsTrue (not (is_sink g (entry_at entries k).vertex)) = subst (λ w. IsReached g needed old entries k (entry_at entries k).vertex w) way (search.reached k h) in
      (is.0, not-true _ is.1)

  -- a step along an edge
  along : (k e from : ℕ) → k < length entries → IsStepFrom g needed old entries k (entry_at entries k).vertex e from → head g e ≡ (entry_at entries k).vertex
      → (tail g e ≡ (entry_at entries from).vertex) × (least_flow needed e < old e)
  along k e from h s enters =
      elim s.step [
        | inl step ↦ (step.0, step.2)
        | inr back ↦
            let lt : from < k = s.earlier in
            absurd (search.distinct from k lt h (sym back.0 ∙ enters))
      ]

  -- a step against an edge
  against : (k e from : ℕ) → IsStepFrom g needed old entries k (entry_at entries k).vertex e from → head g e ≢ (entry_at entries k).vertex
      → (head g e ≡ (entry_at entries from).vertex) × (tail g e ≡ (entry_at entries k).vertex)
  against k e from s other = elim s.step [ inl step ↦ absurd (other step.1) | inr back ↦ back ]

  pub TakesUnit-start : (last : ℕ) → last < length entries → is_sink g (entry_at entries last).vertex ≡ true → IsCarrying g needed old → TakesUnit g needed old entries last old last
  TakesUnit-start last h sink carrying = record {
    within = omega arith;
    balance = IsBalancedBut-same g old (entry_at entries last).vertex carrying.balanced;
    enough = carrying.enough;
    spare = λ k e from le way enters. (along k e from (omega arith) (step-at k e from (omega arith) way) enters).1;
    arrives = rw sink refl;
    few = λ e. omega arith;
  }

  -- a unit is taken off an edge
  pub TakesUnit-lower : (last : ℕ) (flow new : ℕ → ℕ) (at e from : ℕ) → last < length entries → TakesUnit g needed old entries last flow at → (entry_at entries at).way ≡ Some (e, from)
      → head g e ≡ (entry_at entries at).vertex → IsRaised new flow e → TakesUnit g needed old entries last new from
  TakesUnit-lower last flow new at e from h t way enters r =
      let le : at ≤ last = t.within in
      let s = step-at at e from (omega arith) way in
      let lt : from < at = s.earlier in
      let step = along at e from (omega arith) s enters in
      let spare : least_flow needed e < flow e = t.spare at e from (omega arith) way enters in
      let here : flow e ≡ new e + 1 = r.here in
      let goes_on : is_sink g (entry_at entries from).vertex ≡ false = not-true _ s.goes_on in
      let sums : arriving g flow ≡ arriving g new + cond (is_sink g (head g e)) 1 0 = arriving-raised g new flow e s.edge r in
      let was : arriving g flow + 1 ≡ arriving g old + cond (is_sink g (head g e)) 1 0 = rw enters t.arrives in
      record {
        within = omega arith;
        balance = subst (IsBalancedBut g new (entry_at entries last).vertex) step.0
            (lower-back g new flow e s.edge r (entry_at entries last).vertex (subst (IsBalancedBut g flow (entry_at entries last).vertex) (sym enters) t.balance));
        enough = λ d l. elim (cases_eq d e) [
          | inl same ↦ rw same (omega arith)
          | inr other ↦ let now : flow d ≡ new d = r.others d other in omega (arith, t.enough d l)
        ];
        spare = λ k d before le' way' enters'. elim (cases_eq d e) [
          | inl same ↦ absurd (search.distinct k at (omega arith) (omega arith) (sym enters' ∙ ap (head g) same ∙ enters))
          | inr other ↦ let now : flow d ≡ new d = r.others d other in omega (arith, t.spare k d before (omega arith) way' enters')
        ];
        arrives = rw goes_on (omega arith);
        few = λ d. elim (cases_eq d e) [
          | inl same ↦ rw same (omega (arith, t.few e))
          | inr other ↦ let now : flow d ≡ new d = r.others d other in omega (arith, t.few d)
        ];
      }

  -- a unit is put on an edge
  pub TakesUnit-raise : (last : ℕ) (flow new : ℕ → ℕ) (at e from : ℕ) → last < length entries → TakesUnit g needed old entries last flow at → (entry_at entries at).way ≡ Some (e, from)
      → head g e ≢ (entry_at entries at).vertex → IsRaised flow new e → TakesUnit g needed old entries last new from
  TakesUnit-raise last flow new at e from h t way other r =
      let le : at ≤ last = t.within in
      let s = step-at at e from (omega arith) way in
      let lt : from < at = s.earlier in
      let step = against at e from s other in
      let here : new e ≡ flow e + 1 = r.here in
      let goes_on : is_sink g (entry_at entries from).vertex ≡ false = not-true _ s.goes_on in
      let at_head : is_sink g (head g e) ≡ false = subst (λ v. is_sink g v ≡ false) (sym step.0) goes_on in
      let no_sink : is_sink g (entry_at entries at).vertex ≡ false = subst (λ v. is_sink g v ≡ false) step.1 (tail-no_sink g e s.edge) in
      let sums : arriving g new ≡ arriving g flow + 0 = rw at_head at (arriving-raised g flow new e s.edge r) in
      let was : arriving g flow + 1 ≡ arriving g old + 0 = rw no_sink at t.arrives in
      let more : (d : ℕ) → (flow d ≤ new d) × (new d ≤ flow d + 1)
      = λ d. elim (cases_eq d e) [
        | inl same ↦ let now : new d ≡ flow d + 1 = rw same here in (omega arith, omega arith)
        | inr apart ↦ let now : new d ≡ flow d = r.others d apart in (omega arith, omega arith)
      ] in
      record {
        within = omega arith;
        balance = subst (IsBalancedBut g new (entry_at entries last).vertex) step.0
            (raise-onward g flow new e s.edge r (entry_at entries last).vertex (subst (IsBalancedBut g flow (entry_at entries last).vertex) (sym step.1) t.balance));
        enough = λ d l. omega (arith, t.enough d l, (more d).0);
        spare = λ k d before le' way' enters'. omega (arith, t.spare k d before (omega arith) way' enters', (more d).0);
        arrives = rw goes_on (omega arith);
        few = λ d. omega (arith, t.few d, (more d).1);
      }

  pub record TakenUnit (flow : ℕ → ℕ) : Type 0 where
    pub carrying : IsCarrying g needed flow
    pub less : arriving g flow + 1 ≡ arriving g old

  pub TakesUnit-all : (last : ℕ) (flow : ℕ → ℕ) (at : ℕ) → last < length entries → is_sink g (entry_at entries last).vertex ≡ true → TakesUnit g needed old entries last flow at → (entry_at entries at).way ≡ None → TakenUnit flow
  TakesUnit-all last flow at h sink t way =
      let le : at ≤ last = t.within in
      let start = start-at at (omega arith) way in
      let was : arriving g flow + 1 ≡ arriving g old + 0 = rw start.1 at t.arrives in
      record {
        carrying = record {
          balanced = IsBalanced-from_but g flow (entry_at entries last).vertex (entry_at entries at).vertex (sink-outer g (entry_at entries last).vertex sink) (source-outer g (entry_at entries at).vertex start.0) t.balance;
          enough = t.enough;
        };
        less = omega arith;
      }

-- a flow that was lessened, and the latest search
pub record Lessens (g : Graph) (needed : ℕ → Bool) (old flow : ℕ → ℕ) (found : Search) : Type 0 where
  pub carrying : IsCarrying g needed flow
  pub small : (e : ℕ) → flow e + 8192 * arriving g flow ≤ most_at_first + 8192 * arriving g old
  pub search : IsSearch g needed flow found.entries.items found.marked.items
  pub ends : EndsAt g needed flow found.entries.items found.marked.items found.sink

-- a sum of small terms is small
pub sum_below-small : (f : ℕ → ℕ) (c n : ℕ) → ((k : ℕ) → f k ≤ c) → sum_below f n ≤ n * c
sum_below-small f c zero h = omega arith
sum_below-small f c (suc n) h = omega (arith, h n, sum_below-small f c n h)

pub arriving-small : (g : Graph) (flow : ℕ → ℕ) → edge_count g ≤ 4096 → ((e : ℕ) → flow e ≤ most_at_first) → arriving g flow ≤ 274894684160
arriving-small g flow few small = omega (arith, sum_below-small (λ e. cond (is_sink g (head g e)) (flow e) 0) most_at_first (edge_count g) (λ e. at (is_sink g (head g e)) (flow e) (small e))) where
  at : (b : Bool) (x : ℕ) → x ≤ most_at_first → cond b x 0 ≤ most_at_first
  at true x h = h
  at false x h = omega arith
