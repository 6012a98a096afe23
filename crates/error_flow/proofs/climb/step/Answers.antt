use Rattle.std.proofs.Common.{◌≡◌, ◌&&◌, true, nat_le, List, slice_index, sym, subst, arith}
use Rattle.std.specs.List.{list_all}
use Rattle.decomposition.specs.declared.Range.{Range}
use Rattle.lower_flow.specs.declared.found.FlowOrCut.TheVariants.{Flow, InCut, OutCut}
use Rattle.lower_flow.specs.Found.{IsFlowOrCut}
use Rattle.lower_flow.specs.Limits.{most_wide_units}
use Rattle.error_flow.specs.Certificate.{level_at}
use Rattle.error_flow.proofs.Climbing.{tight-bounded, tight-flow}
use Rattle.error_flow.proofs.Raising.{climbs-raised, climbs-lowered}
use Rattle.error_flow.proofs.climb.step.Goals as goal

pub wide_flow-requires-clause-bounded : goal.wide_flow-requires-clause-bounded
wide_flow-requires-clause-bounded c =
    subst (λ (rs : List Range). list_all (λ (r : Range). nat_le r.lo r.hi && nat_le r.hi most_wide_units) rs ≡ true) (sym c.deref.ensures.value)
    (tight-bounded c.args.net.now (slice_index c.args.weights.now) (level_at c.args.levels.now) c.in_ok-ranges.ranges.items c.requires.allowed c.in_ok-ranges.ensures.tight
    (omega (arith, c.total.ensures.few, c.total.ensures.value)))

pub returns-in-Flow-clause-found : goal.returns-in-Flow-clause-found
returns-in-Flow-clause-found c =
    tight-flow c.args.net.now (slice_index c.args.weights.now) (level_at c.args.levels.now) c.in-Flow.flow c.in_ok-ranges.ranges.items c.in_ok-ranges.ensures.net c.requires.allowed
    c.in_ok-ranges.ensures.tight
    (subst (λ (rs : List Range). IsFlowOrCut c.args.net.now rs (Flow c.in-Flow.flow)) c.deref.ensures.value
    (subst (IsFlowOrCut c.args.net.now c.deref.result.now) c.in-Flow.is c.in_ok-flow.ensures))

pub returns-in-InCut-clause-climbs : goal.returns-in-InCut-clause-climbs
returns-in-InCut-clause-climbs c =
    let found = subst (λ (rs : List Range). IsFlowOrCut c.args.net.now rs (InCut c.in-InCut.cut)) c.deref.ensures.value
    (subst (IsFlowOrCut c.args.net.now c.deref.result.now) c.in-InCut.is c.in_ok-flow.ensures) in
    climbs-raised c.args.net.now (slice_index c.args.weights.now) (level_at c.args.levels.now) (level_at c.shift_all.new.levels) c.in_ok-ranges.ranges.items c.in_ok-ranges.ensures.net
    c.in_ok-ranges.ensures.tight c.requires.allowed c.in-InCut.cut found.0 c.in_ok-shift_all-in-InCut.ensures

pub returns-clause-climbs : goal.returns-clause-climbs
returns-clause-climbs c =
    let found = subst (λ (rs : List Range). IsFlowOrCut c.args.net.now rs (OutCut c.in-OutCut.cut)) c.deref.ensures.value
    (subst (IsFlowOrCut c.args.net.now c.deref.result.now) c.in-OutCut.is c.in_ok-flow.ensures) in
    climbs-lowered c.args.net.now (slice_index c.args.weights.now) (level_at c.args.levels.now) (level_at c.shift_all-in-OutCut.new.levels) c.in_ok-ranges.ranges.items c.in_ok-ranges.ensures.net
    c.in_ok-ranges.ensures.tight c.requires.allowed c.in-OutCut.cut found.0 c.in_ok-shift_all-in-OutCut.ensures
