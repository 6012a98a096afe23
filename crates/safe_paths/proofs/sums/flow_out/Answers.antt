use Rattle.std.proofs.Common.{◌≤◌, ◌*◌, ◌==◌, slice_index, refl, arith}
use Rattle.decomposition.specs.Graph.{edge_count, tail}
use Rattle.safe_paths.proofs.OutSums.{small-at, sum_below-bound, IsSumUpTo-from, IsSumUpTo-more}
use Rattle.safe_paths.proofs.sums.flow_out.Goals as goal

pub loop-out-init : goal.loop-out-init
loop-out-init c = IsSumUpTo-from c.args.net.now (slice_index c.args.flow.now) c.args.v 0 c.first_out-out.result 0 (omega arith) refl c.first_out-out.ensures

pub overflow_add-sum : goal.overflow_add-sum
overflow_add-sum c =
    let e = c.in-Some.e in
    let w = rw c.in-Some.is at c.loop-out.invariant in
    let small = small-at 1000000000000 c.args.flow.now c.requires.small in
    let so_far : c.loop-out.sum ≤ e * 1000000000000 = omega (arith, w.2, sum_below-bound (λ d. tail c.args.net.now d == c.args.v) (slice_index c.args.flow.now) 1000000000000 e small) in
    omega (arith, w.0, small e)

pub loop-out-preserved : goal.loop-out-preserved
loop-out-preserved c =
    let e = c.in-Some.e in
    let w = rw c.in-Some.is at c.loop-out.invariant in
    IsSumUpTo-more c.args.net.now (slice_index c.args.flow.now) c.args.v e c.next_out-out.result c.loop-out.sum (slice_index c.args.flow.now e) w refl c.next_out-out.ensures

pub returns-clause-small : goal.returns-clause-small
returns-clause-small c =
    let w = rw c.in_default.is at c.loop-out.invariant in
    let small = small-at 1000000000000 c.args.flow.now c.requires.small in
    omega (
      arith,
      w,
      c.requires.few,
      sum_below-bound (λ d. tail c.args.net.now d == c.args.v) (slice_index c.args.flow.now) 1000000000000 (edge_count c.args.net.now) small,
    )
