use Rattle.std.proofs.Common.{◌≡◌, ◌+◌, ap, ◌∙◌, add-one, arith, slice_index, to_z, of_z, w64}
use Rattle.std.specs.Prelude.{ℤ, ◌+ℤ◌}
use Rattle.std.proofs.lemmas.Int.{ints}
use Rattle.error_flow.specs.Certificate.{level_at, rise, share, bound_before}
use Rattle.error_flow.proofs.check.bound.Goals as goal

pub loop-e-preserved : goal.loop-e-preserved
loop-e-preserved c =
    let e = c.loop-e.e in
    let weights = slice_index c.args.weights.now in
    let level = level_at c.args.levels.now in
    let more : bound_before c.args.net.now weights level (e + 1) ≡ bound_before c.args.net.now weights level e +ℤ share (rise c.args.net.now level e) (weights e)
    = ap (bound_before c.args.net.now weights level) (add-one e) in
    let read : to_z w64 (of_z w64 c.rise.result) ≡ rise c.args.net.now level e = omega (arith, ints, c.rise.ensures) in
    let same : bound_before c.args.net.now weights level (e + 1) ≡ to_z w64 c.loop-e.sum-bits +ℤ c.share-sum.result
    = more ∙ sums _ _ _ _ c.loop-e.invariant.0 (c.share-sum.ensures.value ∙ ap (λ r. share r (weights e)) read) in
    (rw same (omega (arith, ints)), omega (arith, ints), omega (arith, ints))
  where
    sums : (sum more before here : ℤ) → sum ≡ before → more ≡ here → before +ℤ here ≡ sum +ℤ more
    sums sum more before here p q = cc
