-- A flow within the tight ranges changes the weights by just as much as the bound of the levels.
use Rattle.std.proofs.Common.{◌≡◌, ℕ, zero, suc, ◌+◌, ◌*◌, ◌<◌, ◌≤◌, List, refl, ap, arith}
use Rattle.std.specs.Prelude.{ℤ, pos, negsuc, ◌+ℤ◌, ◌-ℤ◌, ◌≤ℤ◌}
use Rattle.std.proofs.lemmas.Int.{ints}
use Rattle.decomposition.specs.declared.Range.{Range}
use Rattle.decomposition.specs.Graph.{Graph, IsNet, edge_count, tail, head}
use Rattle.decomposition.specs.Answer.{sum_below}
use Rattle.decomposition.specs.Instance.{IsFlowWithin, range_at}
use Rattle.decomposition.proofs.Sums.{le-sum_below}
use Rattle.lower_flow.specs.Found.{with_ranges}
use Rattle.error_flow.specs.Nearest.{apart, change}
use Rattle.error_flow.specs.Certificate.{rise, share, bound, bound_before, AreAllowed, IsGentle}
use Rattle.error_flow.specs.Tight.{total_of, IsTight, AreTight}
use Rattle.error_flow.proofs.Shares.{rises, falls, flat, one, steep, share-one, share-zero, share-fall, tight-bounds}
use Rattle.error_flow.proofs.Bounding.{lifted, as_much}
use borrow.Author.Differences.{up, down}

-- on an edge from level c to level a
edge_tight : (total : ℕ) (a c : ℤ) (w f : ℕ) (range : Range) → IsTight total (a -ℤ c) w range → negsuc 0 ≤ℤ (a -ℤ c) → range.lo ≤ f → f ≤ range.hi
    → (share (a -ℤ c) w +ℤ pos (down a * f + up c * f)) ≡ pos (apart w f + (up a * f + down c * f))
edge_tight total a c w f range tight gentle low high =
    elim (rises (a -ℤ c) gentle) [
      | falls is ↦
          let least : range.lo ≡ w = tight.high (omega (arith, ints)) in
          let times : (up a + down c + 1) * f ≡ (down a + up c) * f = ap (λ x. x * f) (omega (arith, ints)) in
          let here = share-fall (a -ℤ c) w is in
          omega (arith, ints, here)
      | flat is ↦
          let least : range.lo ≡ w = tight.high (omega (arith, ints)) in
          let most : range.hi ≡ w = tight.flat is in
          let times : (up a + down c) * f ≡ (down a + up c) * f = ap (λ x. x * f) (omega (arith, ints)) in
          let here = share-zero (a -ℤ c) w is in
          omega (arith, ints, here)
      | one is ↦
          let most : range.hi ≡ w = tight.one is in
          let times : (up a + down c) * f ≡ (down a + up c + 1) * f = ap (λ x. x * f) (omega (arith, ints)) in
          let here = share-one (a -ℤ c) w (omega (arith, ints)) in
          omega (arith, ints, here)
      | steep is ↦
          let none : f ≡ 0 = omega (arith, tight.steep (omega (arith, ints))) in
          let here = share-one (a -ℤ c) w (omega (arith, ints)) in
          rw none (omega (arith, ints, here))
    ]

-- all edges in turn
edges_tight : (g : Graph) (weight : ℕ → ℕ) (level : ℕ → ℤ) (flow : ℕ → ℕ) (ranges : List Range) (n : ℕ) → n ≤ edge_count g → IsGentle g level → AreTight g weight level ranges
    → IsFlowWithin (with_ranges g ranges) flow
    → (bound_before g weight level n +ℤ pos (lifted (λ v. down (level v)) (head g) flow n + lifted (λ v. up (level v)) (tail g) flow n))
    ≡ pos (sum_below (λ e. apart (weight e) (flow e)) n + (lifted (λ v. up (level v)) (head g) flow n + lifted (λ v. down (level v)) (tail g) flow n))
edges_tight g weight level flow ranges zero h gentle tight within = refl
edges_tight g weight level flow ranges (suc n) h gentle tight within =
    let before = edges_tight g weight level flow ranges n (omega arith) gentle tight within in
    let here = edge_tight (total_of g weight) (level (head g n)) (level (tail g n)) (weight n) (flow n) (range_at ranges n) (tight.each n (omega arith)) (gentle n (omega arith)) (within.low n (omega arith)) (within.high n (omega arith)) in
    omega (arith, ints, before, here)

pub tight-bound : (g : Graph) (weight : ℕ → ℕ) (level : ℕ → ℤ) (flow : ℕ → ℕ) (ranges : List Range) → IsNet g → AreAllowed g level → AreTight g weight level ranges
    → IsFlowWithin (with_ranges g ranges) flow → bound g weight level ≡ pos (change g weight flow)
tight-bound g weight level flow ranges net allowed tight within =
    omega (
      arith,
      ints,
      edges_tight g weight level flow ranges (edge_count g) (omega arith) allowed.gentle tight within,
      as_much g (λ v. up (level v)) flow net within.balanced (λ v h end. ap up (allowed.ends v h end)),
      as_much g (λ v. down (level v)) flow net within.balanced (λ v h end. ap down (allowed.ends v h end)),
    )

-- no number of such a flow is more than all weights together
pub tight-most : (g : Graph) (weight : ℕ → ℕ) (level : ℕ → ℤ) (flow : ℕ → ℕ) (ranges : List Range) → AreAllowed g level → AreTight g weight level ranges
    → IsFlowWithin (with_ranges g ranges) flow → (e : ℕ) → e < edge_count g → flow e ≤ total_of g weight
tight-most g weight level flow ranges allowed tight within e h =
    let most = tight-bounds (total_of g weight) (rise g level e) (weight e) (range_at ranges e) (tight.each e h) (allowed.gentle e h) (le-sum_below weight (edge_count g) e h) in
    omega (arith, most.2, within.high e h)
