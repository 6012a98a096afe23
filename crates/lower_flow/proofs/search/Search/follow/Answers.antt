use Rattle.std.proofs.Common.{◌<◌, ◌≤◌, length, Some, slice_index, sym, subst, arith}
use Rattle.std.proofs.lemmas.Result.{on_ok_weaker}
use Rattle.lower_flow.specs.Residual.{residual}
use Rattle.lower_flow.specs.Search.{Enters, IsStepOver}
use Rattle.lower_flow.specs.declared.search.Reached.{Reached}
use Rattle.lower_flow.proofs.Searching.{entry-read, IsEntered, IsEntered-from}
use Rattle.lower_flow.proofs.search.Search.follow.Goals as goal
use Rattle.lower_flow.proofs.search.Search.follow.Goals.{After-enter}

-- what is entered
abbrev reached : After-enter → Reached
reached c = record { vertex = c.step_over-step.result.to; room = c.min.result; way = Some (c.args.e, c.args.k) }

entered : (c : After-enter) → Enters c.args.self.now.entries.items c.args.self.now.marked.items (reached c) c.enter.new.self.entries.items c.enter.new.self.marked.items
    → IsEntered (residual c.args.net.now c.args.ranges.now c.args.side (slice_index c.args.flow.now)) c.args.self.now.entries.items c.args.self.now.marked.items (reached c) c.enter.new.self.entries.items c.enter.new.self.marked.items
entered c enters =
    let r = residual c.args.net.now c.args.ranges.now c.args.side (slice_index c.args.flow.now) in
    let entries = c.args.self.now.entries.items in
    let step = c.step_over-step.result in
    let within : c.args.k < length entries = omega (arith, c.requires.place, c.args.self.now.entries.ok.0) in
    let read = entry-read entries c.args.k c.index-from.result.now within c.index-from.ensures in
    let positive : 0 < c.index-from.result.now.room = subst (λ (x : Reached). 0 < x.room) (sym read) (c.requires.search.positive c.args.k within) in
    IsEntered-from r entries c.args.self.now.marked.items (reached c) c.enter.new.self.entries.items c.enter.new.self.marked.items
    c.requires.search c.step_over-step.ensures.vertex (omega (arith, c.min.ensures, c.if-step-gt0.true))
    (record {
      edge = c.requires.edge;
      earlier = within;
      step = (step.room, subst (λ (x : Reached). IsStepOver r c.args.e x.vertex step.to step.room) read c.step_over-step.ensures.step, omega (arith, c.min.ensures));
      less = subst (λ (x : Reached). c.min.result ≤ x.room) read (omega (arith, c.min.ensures));
    })
    enters

pub returns-then-step-gt0-clause-search : goal.returns-then-step-gt0-clause-search
returns-then-step-gt0-clause-search c =
    on_ok_weaker c.enter.result (λ enters. (entered (goal.at.returns-then-step-gt0-clause-search c).After-enter enters).search) c.enter.ensures

pub returns-then-step-gt0-clause-grows : goal.returns-then-step-gt0-clause-grows
returns-then-step-gt0-clause-grows c =
    on_ok_weaker c.enter.result (λ enters. (entered (goal.at.returns-then-step-gt0-clause-grows c).After-enter enters).grows) c.enter.ensures
