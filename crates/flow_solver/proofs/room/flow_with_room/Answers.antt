-- A flow above the units has room for the booked paths.
use Rattle.std.proofs.Common.{ℕ, List, subst}
use Rattle.std.specs.Prelude.{IfOk, MatchOption}
use Rattle.flow_solver.specs.Room.{HasNoneAbove, IsFlowAbove}
use Rattle.flow_solver.proofs.Raising.{room_if_ok}
use Rattle.flow_solver.proofs.room.flow_with_room.Goals as goal

pub returns : goal.returns
returns c =
    let g = c.args.net.now in
    let ranges = c.args.ranges.now in
    room_if_ok g ranges c.in_ok-units.units.items c.args.booked.now c.flow_above.result c.in_ok-units.ensures
    (subst (λ (units : List ℕ). IfOk c.flow_above.result (λ found. MatchOption found (HasNoneAbove g ranges units) (IsFlowAbove g ranges units))) c.deref.ensures.value c.flow_above.ensures)
