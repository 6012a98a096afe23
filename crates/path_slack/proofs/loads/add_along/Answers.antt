use Rattle.std.proofs.Common.{◌<◌, length, slice_index, arith}
use Rattle.greedy_paths.proofs.Counting.{sums-here, sums-more}
use Rattle.path_slack.proofs.loads.add_along.Goals as goal

pub overflow_add-sums : goal.overflow_add-sums
overflow_add-sums c =
    let path = c.args.path.now in
    let i = c.loop-e.e-index in
    let there : i < length path = omega arith in
    omega (arith, sums-here (slice_index c.args.sums.now) path c.args.amount i there c.loop-e.sums c.requires.once c.loop-e.invariant, c.requires.room i 0 there, c.from.ensures)

pub loop-e-preserved : goal.loop-e-preserved
loop-e-preserved c =
    let path = c.args.path.now in
    let i = c.loop-e.e-index in
    let there : i < length path = omega arith in
    let inside : slice_index path i < length c.loop-e.sums = omega (arith, c.requires.inside i 0 there) in
    rw c.from.ensures (sums-more (slice_index c.args.sums.now) path c.args.amount i there c.loop-e.sums c.requires.once inside c.loop-e.invariant)
