use Rattle.std.proofs.Common.{◌<◌, length, slice_index, arith}
use Rattle.greedy_paths.proofs.TakingOff.{rest-here, rest-more}
use Rattle.greedy_paths.proofs.greedy.take_off.Goals as goal

pub overflow_sub-rest : goal.overflow_sub-rest
overflow_sub-rest c =
    let path = c.args.path.now in
    let i = c.loop-e.e-index in
    let there : i < length path = omega arith in
    omega (arith, rest-here (slice_index c.args.rest.now) path c.args.weight i there c.loop-e.rest c.requires.once c.loop-e.invariant, c.requires.enough i 0 there)

pub loop-e-preserved : goal.loop-e-preserved
loop-e-preserved c =
    let path = c.args.path.now in
    let i = c.loop-e.e-index in
    let there : i < length path = omega arith in
    let inside : slice_index path i < length c.loop-e.rest = omega (arith, c.requires.inside i 0 there) in
    rest-more (slice_index c.args.rest.now) path c.args.weight i there c.loop-e.rest c.requires.once inside c.loop-e.invariant
