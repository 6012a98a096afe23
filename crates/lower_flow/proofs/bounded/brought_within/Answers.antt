use Rattle.std.proofs.Common.{ℕ, List, ◌+◌, length, ap, sym, subst, arith}
use Rattle.lower_flow.specs.Brought.{AreBroughtBefore}
use Rattle.lower_flow.proofs.Brought.{brought-more}
use Rattle.lower_flow.proofs.bounded.brought_within.Goals as goal

pub loop-e-init : goal.loop-e-init
loop-e-init c = record { count = ap (λ (xs : List ℕ). length xs) c.new-flow.ensures.items; each = λ e there. absurd (omega (arith, there)) }

pub loop-e-preserved : goal.loop-e-preserved
loop-e-preserved c =
    subst (AreBroughtBefore (c.loop-e.e + 1) c.args.ranges.now c.args.near.now) (sym c.in_ok-push.ensures.items)
    (brought-more c.loop-e.e c.args.ranges.now c.args.near.now c.loop-e.flow.items c.min.result c.loop-e.invariant (omega (arith, c.units_at.ensures, c.max.ensures, c.min.ensures)))

pub returns : goal.returns
returns c = subst (λ n. AreBroughtBefore n c.args.ranges.now c.args.near.now c.loop-e.flow.items) (omega (arith, c.loop-e-test.false, c.loop-e.auto.e-end)) c.loop-e.invariant
