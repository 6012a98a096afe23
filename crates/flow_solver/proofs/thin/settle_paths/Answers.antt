-- The widest path of what is left fits over what is settled.
use Rattle.std.proofs.Common.{◌≡◌, length, slice_index, subst}
use Rattle.decomposition.specs.FirstAnswer.{IsWidest, path_width}
use Rattle.flow_solver.specs.Room.{IsLeftOf}
use Rattle.flow_solver.proofs.Thinning.{widest-fits}
use Rattle.flow_solver.proofs.thin.settle_paths.Goals as goal

pub settle_along-requires-clause-width : goal.settle_along-requires-clause-width
settle_along-requires-clause-width c =
    let g = c.args.net.now in
    let s = c.loop.settling in
    let found = subst (λ left. IsWidest g (slice_index left) c.in-Some.path × (c.in-Some.width ≡ path_width (slice_index left) c.in-Some.path)) c.deref-in-loop-2.ensures.value (rw c.in-Some.is at c.in_ok-path.ensures.found) in
    let left = subst (λ flow. IsLeftOf (length flow) flow s.settled.items c.in_ok-left.left.items) c.as_slice.ensures
    (subst (λ settled. IsLeftOf (length c.as_slice.result.now) c.as_slice.result.now settled c.in_ok-left.left.items) c.deref-in-loop.ensures.value c.in_ok-left.ensures) in
    widest-fits g c.args.ranges.now s c.requires.one_each c.loop.invariant.0 c.in_ok-left.left.items c.in-Some.path c.in-Some.width left found.0.path found.1
