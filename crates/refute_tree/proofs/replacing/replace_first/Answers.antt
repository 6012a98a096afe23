use Rattle.std.proofs.Common.{arith}
use Rattle.refute_tree.proofs.Taking.{split_inside, step_inside, walk_begun, step_some, step_edges, step_follows, step_returns}
use Rattle.refute_tree.proofs.replacing.replace_first.Goals as goal

pub split-requires-clause-slot : goal.split-requires-clause-slot
split-requires-clause-slot c = split_inside c.args.net.now c.args.one.now c.args.token c.in-Split.slot c.requires.fits c.in-Split.is

pub first_next-requires-clause-slot : goal.first_next-requires-clause-slot
first_next-requires-clause-slot c = omega (arith, step_inside c.args.net.now c.args.one.now c.args.token c.in-Step.slot c.requires.fits c.in-Step.is, c.requires.kept.slots)

pub first_next-requires-clause-begun : goal.first_next-requires-clause-begun
first_next-requires-clause-begun c = walk_begun c.args.net.now c.args.one.now c.in-Step.slot c.requires.kept (step_inside c.args.net.now c.args.one.now c.args.token c.in-Step.slot c.requires.fits c.in-Step.is)

pub unwrap-edge-requires : goal.unwrap-edge-requires
unwrap-edge-requires c =
    step_some c.args.net.now c.args.one.now c.args.token c.in-Step.slot c.first_next.result c.requires.fits c.in-Step.is
    (step_inside c.args.net.now c.args.one.now c.args.token c.in-Step.slot c.requires.fits c.in-Step.is) c.first_next.ensures

pub step-requires-clause-slot : goal.step-requires-clause-slot
step-requires-clause-slot c = step_inside c.args.net.now c.args.one.now c.args.token c.in-Step.slot c.requires.fits c.in-Step.is

pub step-requires-clause-follows : goal.step-requires-clause-follows
step-requires-clause-follows c =
    step_follows c.args.net.now _ c.unwrap-edge.result _
    (step_edges c.args.net.now c.args.one.now c.in-Step.slot c.unwrap-edge.result c.first_next.result
    (step_inside c.args.net.now c.args.one.now c.args.token c.in-Step.slot c.requires.fits c.in-Step.is) c.first_next.ensures c.unwrap-edge.ensures)

pub returns-in-Step-clause-place : goal.returns-in-Step-clause-place
returns-in-Step-clause-place c = λ i graph.
    step_returns c.args.net.now c.args.one.now c.step.new.self c.args.token c.in-Step.slot c.unwrap-edge.result _ i graph c.in-Step.is
    (step_edges c.args.net.now c.args.one.now c.in-Step.slot c.unwrap-edge.result c.first_next.result
    (step_inside c.args.net.now c.args.one.now c.args.token c.in-Step.slot c.requires.fits c.in-Step.is) c.first_next.ensures c.unwrap-edge.ensures) c.step.ensures.place
