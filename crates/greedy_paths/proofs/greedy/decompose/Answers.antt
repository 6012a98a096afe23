use Rattle.std.proofs.Common.{◌≤◌, length, slice_index, arith}
use Rattle.decomposition.specs.Flow.{Decomposes}
use Rattle.decomposition.specs.FirstAnswer.{IsWidestFirst}
use Rattle.decomposition.proofs.FewPaths.{positive_count}
use Rattle.greedy_paths.proofs.Decomposing.{Decomposes-widest, IsWidestFirst-whole, positive_count-list}
use Rattle.greedy_paths.proofs.greedy.decompose.Goals as goal
use Rattle.greedy_paths.proofs.greedy.decompose.Goals.{In_ok-answer}

-- the list begins with nothing
widest : (c : In_ok-answer) → IsWidestFirst c.args.net.now (slice_index c.args.flow.now) c.in_ok-answer.answer
widest c = IsWidestFirst-whole c.args.net.now c.args.flow.now c.in_ok-rest.rest.items c.new.result c.in_ok-answer.answer c.new.ensures c.in_ok-rest.ensures.items c.in_ok-answer.ensures.widest

-- the widest-first list decomposes the flow, which is balanced
made : (c : In_ok-answer) → Decomposes c.args.net.now (slice_index c.args.flow.now) c.in_ok-answer.answer × (length c.in_ok-answer.answer ≤ positive_count c.args.net.now (slice_index c.args.flow.now))
made c =
    let balanced = rw c.in_default.is at c.in_ok-vertex.ensures.balanced in
    Decomposes-widest c.args.net.now (slice_index c.args.flow.now) c.in_ok-answer.answer c.in_ok-answer.ensures.net balanced (widest c)

pub returns-clause-sums : goal.returns-clause-sums
returns-clause-sums c = (made (goal.at.returns-clause-sums c).In_ok-answer).0

pub returns-clause-few : goal.returns-clause-few
returns-clause-few c =
    let both = made (goal.at.returns-clause-few c).In_ok-answer in
    omega (arith, both.1, positive_count-list c.args.net.now c.args.flow.now c.requires.one_each)

pub returns-clause-widest : goal.returns-clause-widest
returns-clause-widest c = widest (goal.at.returns-clause-widest c).In_ok-answer
