-- The edges of a path are edges.
use Rattle.std.proofs.Common.{◌≡◌, ◌<◌, length, slice_index, ap, sym, subst, arith}
use Rattle.std.specs.Prelude.{All}
use Rattle.decomposition.specs.FirstAnswer.{IsWidest, path_width}
use Rattle.greedy_paths.proofs.Decomposing.{path-inside}
use Rattle.flow_solver.proofs.carried.without_spare.Goals as goal

pub take_off-requires : goal.take_off-requires
take_off-requires c =
    let g = c.args.net.now in
    let is = subst (λ spare. IsWidest g (slice_index spare) c.in-Some.path × (c.in-Some.width ≡ path_width (slice_index spare) c.in-Some.path)) c.deref-in-loop.ensures.value
    (rw c.in-Some.is at c.in_ok-path.ensures.found) in
    subst (All (λ e. e < length c.deref_mut.result.now)) (sym c.as_slice.ensures)
    (λ k d h. omega (arith, path-inside g c.in-Some.path is.0.path k d h, ap length c.deref_mut.ensures.value, c.loop.invariant, c.loop.near.ok.0))
