use Rattle.std.proofs.Common.{slice_index, arith}
use Rattle.greedy_paths.proofs.Building.{IsOver, IsOver-from, Decomposes-merged, merged-few, merged-covers, total-fits}
use Rattle.greedy_paths.proofs.greedy.decompose_over.Goals as goal
use Rattle.greedy_paths.proofs.greedy.decompose_over.Goals.{In_ok-paths}

-- the booked paths, and the widest-first list of the rest
over : (c : In_ok-paths) → IsOver c.args.net.now (slice_index c.args.flow.now) c.args.booked c.in_ok-paths.paths
over c =
    IsOver-from c.args.net.now (slice_index c.args.flow.now) c.args.booked c.in_ok-paths.paths c.in_ok-rest.rest.items c.in_ok-paths.ensures.net c.in_ok-rest.ensures.balanced c.requires.answer c.in_ok-rest.ensures.rest c.in_ok-paths.ensures.widest

pub tidy-requires : goal.tidy-requires
tidy-requires c =
    total-fits c.args.net.now c.args.flow.now c.args.booked c.in_ok-paths.paths c.requires.units c.requires.few c.requires.small (omega (arith, c.edges.ensures.edges, c.edges.ensures.few))
    (over (goal.at.tidy-requires c).In_ok-paths)

pub returns-clause-sums : goal.returns-clause-sums
returns-clause-sums c =
    let made = over (goal.at.returns-clause-sums c).In_ok-paths in
    Decomposes-merged c.args.net.now (slice_index c.args.flow.now) c.in_ok-paths.paths c.in_ok-answer.answer made.made c.in_ok-answer.ensures.merged c.in_ok-answer.ensures.paths

pub returns-clause-few : goal.returns-clause-few
returns-clause-few c =
    merged-few c.args.net.now (slice_index c.args.flow.now) c.args.booked c.in_ok-paths.paths c.in_ok-answer.answer (over (goal.at.returns-clause-few c).In_ok-paths) c.in_ok-answer.ensures.merged

pub returns-clause-keeps : goal.returns-clause-keeps
returns-clause-keeps c =
    merged-covers c.args.net.now (slice_index c.args.flow.now) c.args.booked c.in_ok-paths.paths c.in_ok-answer.answer (over (goal.at.returns-clause-keeps c).In_ok-paths) c.in_ok-answer.ensures.paths
