-- The flow out of a vertex, edge by edge, and bounds of sums.
use Rattle.std.proofs.Common.{◌≡◌, ◌≢◌, ◌==◌, ℕ, zero, suc, ◌+◌, ◌*◌, ◌<◌, ◌≤◌, List, length, cond, Bool, true, false, slice_index, refl, sym, ◌∙◌, arith, inl, inr, eq-eqb, subst}
use Rattle.std.specs.Prelude.{Option, Some, None, MatchOption, All}
use Rattle.std.proofs.lemmas.Bool.{cases_eq, cases_lt, ne_eqb, cond-true, cond-false}
use Rattle.std.proofs.lemmas.List.{get_or_past}
use Rattle.std.proofs.lemmas.List.Elements.{All-get_or}
use Rattle.decomposition.specs.Graph.{Graph, edge_count, tail}
use Rattle.decomposition.specs.Answer.{sum_below}
use Rattle.decomposition.specs.Flow.{flow_out_of}
use Rattle.decomposition.proofs.Sums.{sum_below_more}
use Rattle.dag_net.specs.Chain.{IsFirstOut}

-- no entry is great, nor what stands past the end
pub small-at : (m : ℕ) (flow : List ℕ) → All (λ w. w ≤ m) flow → (e : ℕ) → slice_index flow e ≤ m
small-at m flow small e =
    elim (cases_lt e (length flow)) [
      | inl there ↦ All-get_or (λ w. w ≤ m) flow e 0 there small
      | inr past ↦ omega (arith, get_or_past flow e 0 past)
    ]

cond-le : (test : Bool) (w m : ℕ) → w ≤ m → cond test w 0 ≤ m
cond-le true w m h = h
cond-le false w m h = omega arith

-- a sum of n terms, none of them above m
pub sum_below-bound : (test : ℕ → Bool) (flow : ℕ → ℕ) (m n : ℕ) → ((e : ℕ) → flow e ≤ m) → sum_below (λ e. cond (test e) (flow e) 0) n ≤ n * m
sum_below-bound test flow m zero small = omega arith
sum_below-bound test flow m (suc n) small = omega (arith, cond-le (test n) (flow n) m (small n), sum_below-bound test flow m n small)

module _ (g : Graph) (flow : ℕ → ℕ) (v : ℕ) where
  out_below : ℕ → ℕ
  out_below n = sum_below (λ e. cond (tail g e == v) (flow e) 0) n

  -- edges that do not leave v add nothing
  skip : (n m : ℕ) → n ≤ m → ((e : ℕ) → n ≤ e → e < m → tail g e ≢ v) → out_below m ≡ out_below n
  unfolding out_below
  skip n zero h none = let same : n ≡ zero = omega arith in rw same refl
  skip n (suc m) h none =
      elim (cases_eq n (suc m)) [
        | inl same ↦ rw same refl
        | inr less ↦
            omega (
              arith,
              skip n m (omega arith) (λ e from to. none e from (omega arith)),
              cond-false (tail g m == v) (flow m) 0 (ne_eqb (tail g m) v (none m (omega arith) (omega arith))),
            )
      ]

  -- the sum over the edges that leave v before the one at hand
  abbrev pub IsSumUpTo : Option ℕ → ℕ → Type 0
  IsSumUpTo out sum = MatchOption out (sum ≡ flow_out_of g flow v) (λ e. (e < edge_count g) × (tail g e ≡ v) × (sum ≡ sum_below (λ d. cond (tail g d == v) (flow d) 0) e))

  pub IsSumUpTo-from : (n : ℕ) (out : Option ℕ) (sum : ℕ) → n ≤ edge_count g → sum ≡ sum_below (λ d. cond (tail g d == v) (flow d) 0) n → IsFirstOut g v n out → IsSumUpTo out sum
  unfolding out_below
  IsSumUpTo-from n None sum within is none = is ∙ sym (skip n (edge_count g) within none)
  IsSumUpTo-from n (Some e) sum within is first = (first.1, first.2, is ∙ sym (skip n e first.0 first.3))

  -- one more edge
  pub IsSumUpTo-more : (e : ℕ) (out : Option ℕ) (sum w : ℕ) → IsSumUpTo (Some e) sum → w ≡ flow e → IsFirstOut g (tail g e) (e + 1) out → IsSumUpTo out (sum + w)
  IsSumUpTo-more e out sum w so_far is next =
      IsSumUpTo-from (e + 1) out (sum + w) (omega (arith, so_far.0))
      (omega (arith, so_far.2, sum_below_more (λ d. cond (tail g d == v) (flow d) 0) e, cond-true (tail g e == v) (flow e) 0 (eq-eqb (tail g e) v so_far.1)))
      (subst (λ u. IsFirstOut g u (e + 1) out) so_far.1 next)
