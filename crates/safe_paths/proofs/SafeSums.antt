-- Safe runs by sums: a run is safe where its edges carry, with the flow out of its first vertex, more than leaves the vertices that they leave.
use Rattle.std.proofs.Common.{◌≡◌, ◌≤◌, ◌<◌, ℕ, ◌+◌, ◌==◌, List, [], ◌∷◌, ◌++◌, length, length-append, append-nil, slice_index, cond, true, false, pos, ◌-ℤ◌, drop, refl, sym, ap, subst, arith, inl, inr, eq-eqb}
use Rattle.std.proofs.lemmas.Bool.{cond-true, both_ways}
use Rattle.std.proofs.lemmas.Int.{ints}
use Rattle.std.proofs.lemmas.List.Sums.{sum_by-cons, sum_by_push}
use Rattle.decomposition.specs.Graph.{Graph, IsNet, IsRun, edge_count, tail, head, is_walk_from, walk_end, is_sink, contains_run}
use Rattle.decomposition.specs.Flow.{IsBalanced, flow_out_of}
use Rattle.decomposition.specs.SafeRuns.{IsSafeFor, IsMaximal, excess}
use Rattle.decomposition.proofs.Sums.{le-sum_below}
use Rattle.decomposition.proofs.Walks.{IsStep, walk-cons, walk-from_step, walk-append, walk-right}
use Rattle.decomposition.proofs.Flows.{tail-no_sink}
use Rattle.decomposition.proofs.Excess.{excess_is_safe}
use Rattle.decomposition.proofs.Exchange.{safe_is_excess}
use Rattle.decomposition.proofs.Extremes.{contains_run-middle, maximal_by_one_edge}
use Rattle.safe_paths.specs.Sums.{carried, passed}
use Rattle.safe_paths.specs.VertexFlows.{IsGreatest}
use Rattle.safe_paths.proofs.Leaving.{leaving-sums}

-- the excess of a run is what its edges carry, less the flow out of the vertices that all but the first leave
pub excess-sums : (g : Graph) → IsNet g → (flow : ℕ → ℕ) (r : List ℕ) → IsRun g r → pos (carried flow r) -ℤ pos (passed g flow (drop 1 r)) ≡ excess g flow r
excess-sums g net flow [] run = absurd (both_ways false refl run)
excess-sums g net flow (e ∷ es) run = omega (arith, ints, leaving-sums g net flow e es run, sum_by-cons flow e es)

-- the vertex that a run leaves, and the one where it ends
abbrev pub start : Graph → List ℕ → ℕ
start g r = tail g (slice_index r 0)

abbrev pub end : Graph → List ℕ → ℕ
end g r = walk_end g (start g r) r

module _ (g : Graph) (net : IsNet g) (flow : ℕ → ℕ) where
  -- no edge carries more than leaves its tail
  carried-le-passed : (v : ℕ) (es : List ℕ) → is_walk_from g v es ≡ true → carried flow es ≤ passed g flow es
  carried-le-passed v [] walk = omega arith
  carried-le-passed v (e ∷ es) walk =
      let s : IsStep g v e es = walk-cons g v e es walk in
      omega (
        arith,
        carried-le-passed (head g e) es s.rest,
        le-sum_below (λ d. cond (tail g d == tail g e) (flow d) 0) (edge_count g) e s.inside,
        cond-true (tail g e == tail g e) (flow e) 0 (eq-eqb (tail g e) (tail g e) refl),
        sum_by-cons flow e es,
        sum_by-cons (λ d. flow_out_of g flow (tail g d)) e es,
      )

  pub safe-from_sums : (r : List ℕ) → IsRun g r → passed g flow r < carried flow r + flow_out_of g flow (start g r) → IsSafeFor g flow r
  safe-from_sums [] run more = absurd (both_ways false refl run)
  safe-from_sums (e ∷ es) run more =
      excess_is_safe g flow e es net run
      (omega (arith, leaving-sums g net flow e es run, sum_by-cons flow e es, sum_by-cons (λ d. flow_out_of g flow (tail g d)) e es))

  module _ (balanced : IsBalanced g flow) where
    pub sums-from_safe : (r : List ℕ) → IsSafeFor g flow r → passed g flow r < carried flow r + flow_out_of g flow (start g r)
    sums-from_safe [] safe = absurd (both_ways false refl safe.run)
    sums-from_safe (e ∷ es) safe =
        omega (
          arith,
          safe_is_excess g flow e es net balanced safe,
          leaving-sums g net flow e es safe.run,
          sum_by-cons flow e es,
          sum_by-cons (λ d. flow_out_of g flow (tail g d)) e es,
        )

    -- a longer safe run that begins before the run
    pub back-from_sums : (r : List ℕ) (most : ℕ) → IsRun g r → IsGreatest (head g) flow (edge_count g) (start g r) most → passed g flow r < carried flow r + most → (e : ℕ) × IsSafeFor g flow (e ∷ r)
    back-from_sums [] most run greatest more = absurd (both_ways false refl run)
    back-from_sums (d ∷ r) most run greatest more =
        elim greatest.reached [
          | inl none ↦ absurd (omega (arith, carried-le-passed (tail g d) (d ∷ r) run))
          | inr (e, inside, enters, is) ↦
              let walk : IsRun g (e ∷ (d ∷ r)) = walk-from_step g (tail g e) e (d ∷ r) (record { inside = inside; leaves = refl; rest = subst (λ v. is_walk_from g v (d ∷ r) ≡ true) (sym enters) run }) in
              (e, safe-from_sums (e ∷ (d ∷ r)) walk (omega (arith, is, sum_by-cons flow e (d ∷ r), sum_by-cons (λ x. flow_out_of g flow (tail g x)) e (d ∷ r))))
        ]

    pub sums-from_back : (r : List ℕ) (most e : ℕ) → IsRun g r → IsGreatest (head g) flow (edge_count g) (start g r) most → IsSafeFor g flow (e ∷ r) → passed g flow r < carried flow r + most
    sums-from_back [] most e run greatest safe = absurd (both_ways false refl run)
    sums-from_back (d ∷ r) most e run greatest safe =
        let s : IsStep g (tail g e) e (d ∷ r) = walk-cons g (tail g e) e (d ∷ r) safe.run in
        let t : IsStep g (head g e) d r = walk-cons g (head g e) d r s.rest in
        omega (
          arith,
          sums-from_safe (e ∷ (d ∷ r)) safe,
          greatest.above e s.inside (sym t.leaves),
          sum_by-cons flow e (d ∷ r),
          sum_by-cons (λ x. flow_out_of g flow (tail g x)) e (d ∷ r),
        )

    -- a longer safe run that ends behind the run
    pub on-from_sums : (r : List ℕ) (most e : ℕ) → IsRun g r → e < edge_count g → tail g e ≡ end g r → flow e ≡ most
        → passed g flow r + flow_out_of g flow (end g r) < carried flow r + flow_out_of g flow (start g r) + most → IsSafeFor g flow (r ++ e ∷ [])
    on-from_sums [] most e run inside leaves is more = absurd (both_ways false refl run)
    on-from_sums (d ∷ r) most e run inside leaves is more =
        let last : is_walk_from g (walk_end g (tail g d) (d ∷ r)) (e ∷ []) ≡ true = walk-from_step g _ e [] (record { inside = inside; leaves = leaves; rest = refl }) in
        let walk : IsRun g ((d ∷ r) ++ e ∷ []) = walk-append g (tail g d) (d ∷ r) (e ∷ []) run last in
        safe-from_sums ((d ∷ r) ++ e ∷ []) walk
        (omega (arith, is, ap (flow_out_of g flow) leaves, sum_by_push flow (d ∷ r) e, sum_by_push (λ x. flow_out_of g flow (tail g x)) (d ∷ r) e))

    pub sums-from_on : (r : List ℕ) (most e : ℕ) → IsRun g r → IsGreatest (tail g) flow (edge_count g) (end g r) most → IsSafeFor g flow (r ++ e ∷ [])
        → (is_sink g (end g r) ≡ false) × (passed g flow r + flow_out_of g flow (end g r) < carried flow r + flow_out_of g flow (start g r) + most)
    sums-from_on [] most e run greatest safe = absurd (both_ways false refl run)
    sums-from_on (d ∷ r) most e run greatest safe =
        let s : IsStep g (walk_end g (tail g d) (d ∷ r)) e [] = walk-cons g _ e [] (walk-right g (tail g d) (d ∷ r) (e ∷ []) safe.run) in (
          subst (λ v. is_sink g v ≡ false) s.leaves (tail-no_sink g e s.inside),
          omega (
            arith,
            sums-from_safe ((d ∷ r) ++ e ∷ []) safe,
            greatest.above e s.inside s.leaves,
            ap (flow_out_of g flow) s.leaves,
            sum_by_push flow (d ∷ r) e,
            sum_by_push (λ x. flow_out_of g flow (tail g x)) (d ∷ r) e,
          ),
        )

-- a safe run is maximal just where it grows at neither end
pub maximal-by_ends : (g : Graph) (flow : ℕ → ℕ) (r : List ℕ) → IsSafeFor g flow r → ¬ ((e : ℕ) × IsSafeFor g flow (e ∷ r)) → ¬ ((e : ℕ) × IsSafeFor g flow (r ++ e ∷ [])) → IsMaximal (IsSafeFor g flow) r
maximal-by_ends g flow r safe back on = maximal_by_one_edge g flow r safe (λ e longer. back (e, longer)) (λ e longer. on (e, longer))

pub back-from_maximal : (g : Graph) (flow : ℕ → ℕ) (r : List ℕ) → IsMaximal (IsSafeFor g flow) r → ¬ ((e : ℕ) × IsSafeFor g flow (e ∷ r))
back-from_maximal g flow r m (e, longer) =
    let contains : contains_run (e ∷ r) r ≡ true = subst (λ l. contains_run (e ∷ l) r ≡ true) (append-nil r) (contains_run-middle (e ∷ []) r []) in
    omega (arith, ap length (m.maximal (e ∷ r) longer contains))

pub on-from_maximal : (g : Graph) (flow : ℕ → ℕ) (r : List ℕ) → IsMaximal (IsSafeFor g flow) r → ¬ ((e : ℕ) × IsSafeFor g flow (r ++ e ∷ []))
on-from_maximal g flow r m (e, longer) =
    omega (arith, ap length (m.maximal (r ++ e ∷ []) longer (contains_run-middle [] r (e ∷ []))), length-append r (e ∷ []))
