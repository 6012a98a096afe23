-- What is settled along the path fits the flow.
use Rattle.std.proofs.Common.{ℕ, ◌<◌, List, length, refl, sym, subst, arith}
use Rattle.std.specs.Prelude.{All}
use Rattle.greedy_paths.proofs.Decomposing.{path-inside}
use Rattle.flow_solver.specs.Room.{IsAddedAlong}
use Rattle.flow_solver.proofs.Thinning.{settling-more}
use Rattle.flow_solver.proofs.thin.settle_along.Goals as goal

pub room_along-room-requires-clause-inside : goal.room_along-room-requires-clause-inside
room_along-room-requires-clause-inside c =
    subst (All (λ e. e < length c.args.ranges.now)) (sym c.as_slice.ensures)
    (λ k d h. omega (arith, path-inside c.args.net.now c.args.path.now c.requires.path k d h, c.requires.one_each))

pub returns-clause-settling : goal.returns-clause-settling
returns-clause-settling c =
    settling-more c.args.net.now c.args.ranges.now c.args.settling (record { flow = c.args.settling.flow; settled = c.in_ok-settled.settled }) c.args.path.now c.args.width refl c.requires.settling
    (subst (λ (path : List ℕ). IsAddedAlong c.args.settling.settled.items path c.args.width c.in_ok-settled.settled.items) c.as_slice-3.ensures
    (subst (λ (settled : List ℕ). IsAddedAlong settled c.as_slice-3.result.now c.args.width c.in_ok-settled.settled.items) c.deref-6.ensures.value c.in_ok-settled.ensures))
    c.requires.width
