use Rattle.std.proofs.Common.{arith}
use Rattle.refute_tree.proofs.NextEdges.{counted-more}
use Rattle.refute_tree.proofs.next.count_after.Goals as goal

pub loop-next-init : goal.loop-next-init
loop-next-init c = record { inside = c.requires; counted = omega arith; few = omega arith }

pub overflow_add-count : goal.overflow_add-count
overflow_add-count c = omega (arith, c.loop-next.invariant.few, c.loop-next.invariant.inside, c.edges.ensures)

pub loop-next-preserved : goal.loop-next-preserved
loop-next-preserved c = counted-more c.args.net.now c.args.edge c.loop-next.at c.loop-next.count c.in-Some.next c.loop-next.invariant c.in-Some.ensures

pub returns-clause-few : goal.returns-clause-few
returns-clause-few c = omega (arith, c.loop-next.invariant.few, c.loop-next.invariant.inside, c.edges.ensures)
