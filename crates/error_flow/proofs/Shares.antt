-- How the share of an edge goes with the rise along it.
use Rattle.std.proofs.Common.{◌≡◌, ℕ, zero, suc, ◌*◌, ◌≤◌, refl, ap, ◌∙◌, arith}
use Rattle.std.specs.Prelude.{ℤ, pos, negsuc, ◌+ℤ◌, ◌-ℤ◌, ◌*ℤ◌, ◌≤ℤ◌}
use Rattle.std.specs.Int.{int_min}
use Rattle.std.proofs.lemmas.Int.{ints, clamps}
use Rattle.decomposition.specs.declared.Range.{Range}
use Rattle.error_flow.specs.Certificate.{share}
use Rattle.error_flow.specs.Tight.{IsTight}

-- the shares of the kinds of rises
pub share-one : (r : ℤ) (w : ℕ) → pos 1 ≤ℤ r → share r w ≡ pos w
share-one r w h =
    let least : int_min (pos 1) r ≡ pos 1 = omega (arith, ints, clamps) in
    ap (λ m. m *ℤ pos w) least ∙ ap pos (omega arith)

pub share-zero : (r : ℤ) (w : ℕ) → r ≡ pos 0 → share r w ≡ pos 0
share-zero r w h =
    let least : int_min (pos 1) r ≡ pos 0 = omega (arith, ints, clamps) in
    ap (λ m. m *ℤ pos w) least ∙ ap pos (omega arith)

pub share-fall : (r : ℤ) (w : ℕ) → r ≡ negsuc 0 → share r w +ℤ pos w ≡ pos 0
share-fall r w h =
    let least : int_min (pos 1) r ≡ negsuc 0 = omega (arith, ints, clamps) in
    let product : share r w ≡ negsuc 0 *ℤ pos w = ap (λ m. m *ℤ pos w) least in
    omega (arith, ints, product)

pub share-steep_fall : (r : ℤ) (w : ℕ) → r ≡ negsuc 1 → share r w +ℤ pos (2 * w) ≡ pos 0
share-steep_fall r w h =
    let least : int_min (pos 1) r ≡ negsuc 1 = omega (arith, ints, clamps) in
    let product : share r w ≡ negsuc 1 *ℤ pos w = ap (λ m. m *ℤ pos w) least in
    omega (arith, ints, product)

-- what a share has at one rise it has at an equal one
pub share-same : (r s : ℤ) (w : ℕ) → r ≡ s → share r w ≡ share s w
share-same r s w h = ap (λ m. share m w) h

-- a rise is below -1, -1, 0, 1 or more
pub data Rise (r : ℤ) : Type 0 where
  falls : r ≡ negsuc 0 → Rise r
  flat : r ≡ pos 0 → Rise r
  one : r ≡ pos 1 → Rise r
  steep : pos 2 ≤ℤ r → Rise r

pub rises : (r : ℤ) → negsuc 0 ≤ℤ r → Rise r
rises (pos zero) h = flat refl
rises (pos (suc zero)) h = one refl
rises (pos (suc (suc n))) h = steep (omega (arith, ints))
rises (negsuc zero) h = falls refl
rises (negsuc (suc n)) h = absurd (omega (arith, ints))

module _ (total : ℕ) (r : ℤ) (w : ℕ) (range : Range) (tight : IsTight total r w range) (gentle : negsuc 0 ≤ℤ r) where
  -- a rise that is greater by 1 has a share that is greater by the lower bound
  pub share-more : (s : ℤ) → s ≡ r +ℤ pos 1 → share s w ≡ share r w +ℤ pos range.lo
  share-more s next =
      elim (rises r gentle) [
        | falls is ↦
            let low : range.lo ≡ w = tight.high (omega (arith, ints)) in
            let before = share-fall r w is in
            let after = share-zero s w (omega (arith, ints)) in
            omega (arith, ints, before, after)
        | flat is ↦
            let low : range.lo ≡ w = tight.high (omega (arith, ints)) in
            let before = share-zero r w is in
            let after = share-one s w (omega (arith, ints)) in
            omega (arith, ints, before, after)
        | one is ↦
            let low : range.lo ≡ 0 = tight.low (omega (arith, ints)) in
            let before = share-one r w (omega (arith, ints)) in
            let after = share-one s w (omega (arith, ints)) in
            omega (arith, ints, before, after)
        | steep is ↦
            let low : range.lo ≡ 0 = tight.low (omega (arith, ints)) in
            let before = share-one r w (omega (arith, ints)) in
            let after = share-one s w (omega (arith, ints)) in
            omega (arith, ints, before, after)
      ]

  -- a rise that is less by 1 has a share that is less by at most the upper bound
  pub share-less : (s : ℤ) → s ≡ r -ℤ pos 1 → w ≤ total → share r w ≤ℤ (share s w +ℤ pos range.hi)
  share-less s next within =
      elim (rises r gentle) [
        | falls is ↦
            let high : range.hi ≡ total = tight.falls (omega (arith, ints)) in
            let before = share-fall r w is in
            let after = share-steep_fall s w (omega (arith, ints)) in
            omega (arith, ints, before, after)
        | flat is ↦
            let high : range.hi ≡ w = tight.flat is in
            let before = share-zero r w is in
            let after = share-fall s w (omega (arith, ints)) in
            omega (arith, ints, before, after)
        | one is ↦
            let high : range.hi ≡ w = tight.one is in
            let before = share-one r w (omega (arith, ints)) in
            let after = share-zero s w (omega (arith, ints)) in
            omega (arith, ints, before, after)
        | steep is ↦
            let high : range.hi ≡ 0 = tight.steep (omega (arith, ints)) in
            let before = share-one r w (omega (arith, ints)) in
            let after = share-one s w (omega (arith, ints)) in
            omega (arith, ints, before, after)
      ]

  -- bounds in order
  pub tight-bounds : w ≤ total → (range.lo ≤ range.hi) × (range.lo ≤ w) × (range.hi ≤ total)
  tight-bounds within =
      elim (rises r gentle) [
        | falls is ↦
            let low : range.lo ≡ w = tight.high (omega (arith, ints)) in
            let high : range.hi ≡ total = tight.falls (omega (arith, ints)) in
            (omega arith, omega arith, omega arith)
        | flat is ↦
            let low : range.lo ≡ w = tight.high (omega (arith, ints)) in
            let high : range.hi ≡ w = tight.flat is in
            (omega arith, omega arith, omega arith)
        | one is ↦
            let low : range.lo ≡ 0 = tight.low (omega (arith, ints)) in
            let high : range.hi ≡ w = tight.one is in
            (omega arith, omega arith, omega arith)
        | steep is ↦
            let low : range.lo ≡ 0 = tight.low (omega (arith, ints)) in
            let high : range.hi ≡ 0 = tight.steep (omega (arith, ints)) in
            (omega arith, omega arith, omega arith)
      ]
