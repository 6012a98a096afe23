-- The weights of an exact instance as a list, and the runs that are safe for them.
use Rattle.std.proofs.Common.{◌≡◌, ◌==◌, ℕ, ◌<◌, ◌≤◌, List, ◌&&◌, cond, nat_le, length, slice_index, sym, ap, ◌∙◌, arith, leb-true}
use Rattle.std.specs.Prelude.{All, map}
use Rattle.std.proofs.lemmas.Bool.{and_parts}
use Rattle.std.proofs.lemmas.List.{length-map, get_or-map as get_or-map_in}
use Rattle.std.proofs.Math.ListN.{get_or-map}
use Rattle.decomposition.specs.declared.Range.{Range}
use Rattle.decomposition.specs.declared.Mode.TheVariants.{Exact}
use Rattle.decomposition.specs.Graph.{Graph, edge_count, tail, head}
use Rattle.decomposition.specs.Flow.{IsBalanced}
use Rattle.decomposition.specs.Instance.{Instance, IsInstance, lower_bound, range_at}
use Rattle.decomposition.specs.SafeRuns.{IsSafe, IsSafeFor, IsMaximal, AreMaximal}
use Rattle.decomposition.proofs.Excess.{safe_runs_agree}
use Rattle.decomposition.proofs.Root.{all-place}
use Rattle.decomposition.proofs.Sums.{sum_below-same}

-- the lower bounds as a list
abbrev pub lows : List Range → List ℕ
lows ranges = map (λ r. r.lo) ranges

pub lows-at : (ranges : List Range) (e : ℕ) → slice_index (lows ranges) e ≡ (range_at ranges e).lo
lows-at ranges e = get_or-map (λ (r : Range). r.lo) ranges e (record { lo = 0; hi = 0 })

-- flows with the same numbers have the same safe runs
safe-same : (g : Graph) (f h : ℕ → ℕ) → ((e : ℕ) → f e ≡ h e) → (r : List ℕ) → IsSafeFor g f r → IsSafeFor g h r
safe-same g f h same r safe = record {
  run = safe.run;
  kept = λ a made. safe.kept a (record { answer = made.answer; sums = λ e inside. made.sums e inside ∙ sym (same e) });
}

maximal-same : (P Q : List ℕ → Type 0) → ((r : List ℕ) → P r → Q r) → ((r : List ℕ) → Q r → P r) → (r : List ℕ) → IsMaximal P r → IsMaximal Q r
maximal-same P Q to from r m = record { holds = to r m.holds; maximal = λ s holds has. m.maximal s (from s holds) has }

-- equal properties have the same list of maximal runs
lists-same : (P Q : List ℕ → Type 0) → ((r : List ℕ) → P r → Q r) → ((r : List ℕ) → Q r → P r) → (runs : List (List ℕ)) → AreMaximal P runs → AreMaximal Q runs
lists-same P Q to from runs m = record {
  rising = m.rising;
  each = λ r has. maximal-same P Q to from r (m.each r has);
  all = λ r maximal. m.all r (maximal-same Q P from to r maximal);
}

-- flows with the same numbers are balanced alike
pub balanced-same : (g : Graph) (f h : ℕ → ℕ) → ((e : ℕ) → f e ≡ h e) → IsBalanced g f → IsBalanced g h
balanced-same g f h same balanced v inner =
    sum_below-same (λ e. cond (head g e == v) (h e) 0) (λ e. cond (head g e == v) (f e) 0) (edge_count g)
    (λ e inside. ap (λ w. cond (head g e == v) w 0) (sym (same e)))
    ∙ balanced v inner
    ∙ sum_below-same (λ e. cond (tail g e == v) (f e) 0) (λ e. cond (tail g e == v) (h e) 0) (edge_count g)
    (λ e inside. ap (λ w. cond (tail g e == v) w 0) (same e))

module _ (i : Instance) (valid : IsInstance Exact i) where
  pub lows_balanced : IsBalanced i.graph (slice_index (lows i.ranges))
  lows_balanced = balanced-same i.graph (lower_bound i) (slice_index (lows i.ranges)) (λ e. sym (lows-at i.ranges e)) valid.fits.1

  pub lows_small : All (λ w. w ≤ 1000000000000) (lows i.ranges)
  lows_small k d there =
      let inside : k < length i.ranges = omega (arith, length-map i.ranges (λ (r : Range). r.lo)) in
      let r = range_at i.ranges k in
      let bounds = and_parts (nat_le r.lo r.hi) (nat_le r.hi 1000000000000) (all-place (λ (r : Range). nat_le r.lo r.hi && nat_le r.hi 1000000000000) i.ranges (record { lo = 0; hi = 0 }) k valid.bounded inside) in
      omega (arith, leb-true r.lo r.hi bounds.0, leb-true r.hi 1000000000000 bounds.1, get_or-map_in (λ (r : Range). r.lo) i.ranges k (record { lo = 0; hi = 0 }) d inside)

  -- the maximal runs that are safe for the weights are those that are safe for the instance
  pub lows_maximal : (runs : List (List ℕ)) → AreMaximal (IsSafeFor i.graph (slice_index (lows i.ranges))) runs → AreMaximal (IsSafe i) runs
  lows_maximal =
      let low = slice_index (lows i.ranges) in
      lists-same (IsSafeFor i.graph low) (IsSafe i)
      (λ r safe. (safe_runs_agree i r valid).1 (safe-same i.graph low (lower_bound i) (lows-at i.ranges) r safe))
      (λ r safe. safe-same i.graph (lower_bound i) low (λ e. sym (lows-at i.ranges e)) r ((safe_runs_agree i r valid).0 safe))
