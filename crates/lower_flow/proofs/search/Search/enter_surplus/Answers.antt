use Rattle.std.proofs.Common.{None, slice_index, arith}
use Rattle.std.proofs.lemmas.Result.{on_ok_weaker}
use Rattle.lower_flow.specs.Residual.{residual}
use Rattle.lower_flow.specs.Search.{Enters}
use Rattle.lower_flow.specs.declared.search.Reached.{Reached}
use Rattle.lower_flow.proofs.Balances.{surplus-read}
use Rattle.lower_flow.proofs.Searching.{IsEntered, IsEntered-from}
use Rattle.lower_flow.proofs.search.Search.enter_surplus.Goals as goal
use Rattle.lower_flow.proofs.search.Search.enter_surplus.Goals.{After-enter}

-- what is entered
abbrev reached : After-enter → Reached
reached c = record { vertex = c.args.v; room = c.surplus-room.result; way = None }

entered : (c : After-enter) → Enters c.args.self.now.entries.items c.args.self.now.marked.items (reached c) c.enter.new.self.entries.items c.enter.new.self.marked.items
    → IsEntered (residual c.args.net.now c.args.ranges.now c.args.side (slice_index c.args.flow.now)) c.args.self.now.entries.items c.args.self.now.marked.items (reached c) c.enter.new.self.entries.items c.enter.new.self.marked.items
entered c enters =
    let g = c.args.net.now in
    IsEntered-from (residual g c.args.ranges.now c.args.side (slice_index c.args.flow.now)) c.args.self.now.entries.items c.args.self.now.marked.items (reached c) c.enter.new.self.entries.items c.enter.new.self.marked.items
    c.requires.search c.requires.vertex c.if-room-gt0.true
    (omega (arith, c.surplus-room.ensures, surplus-read g c.args.side (slice_index c.args.flow.now) c.args.sums.now.far.items c.args.sums.now.near.items c.args.v c.requires.far c.requires.near c.requires.vertex))
    enters

pub returns-then-room-gt0-clause-search : goal.returns-then-room-gt0-clause-search
returns-then-room-gt0-clause-search c =
    on_ok_weaker c.enter.result (λ enters. (entered (goal.at.returns-then-room-gt0-clause-search c).After-enter enters).search) c.enter.ensures

pub returns-then-room-gt0-clause-grows : goal.returns-then-room-gt0-clause-grows
returns-then-room-gt0-clause-grows c =
    on_ok_weaker c.enter.result (λ enters. (entered (goal.at.returns-then-room-gt0-clause-grows c).After-enter enters).grows) c.enter.ensures
