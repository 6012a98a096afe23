use Rattle.std.proofs.Common.{◌≡◌, ◌≢◌, ◌<◌, ◌≤◌, Some, length, slice_index, sym, ap, subst, ◌∙◌, arith}
use Rattle.lower_flow.specs.Residual.{far, residual}
use Rattle.lower_flow.specs.Search.{entry_at}
use Rattle.lower_flow.specs.declared.search.Reached.{Reached}
use Rattle.lower_flow.proofs.Searching.{entry-read, read-below}
use Rattle.lower_flow.proofs.Sending.{onward-room, back-room, Sends-onward, Sends-back, Sends-all}
use Rattle.lower_flow.proofs.clearing.send.Goals as goal
use Rattle.lower_flow.proofs.clearing.send.Goals.{After-index, In-Some, After-index-in-Some}

within : (c : After-index) → c.loop-e.at < length c.args.search.now.entries.items
within c =
    let le : c.loop-e.at ≤ c.args.target.place = c.loop-e.invariant.within in
    let lt : c.args.target.place < length c.args.search.now.entries.items = c.requires.target.there in
    omega arith

way : (c : In-Some) → c.loop-e.at < length c.args.search.now.entries.items → (entry_at c.args.search.now.entries.items c.loop-e.at).way ≡ Some (c.in-Some.e, c.in-Some.from)
way c there =
    let read = entry-read c.args.search.now.entries.items c.loop-e.at c.index.result.now there c.index.ensures in
    sym (ap (λ (x : Reached). x.way) read) ∙ c.in-Some.is

vertex : (c : After-index-in-Some) → c.loop-e.at < length c.args.search.now.entries.items → c.index-in-Some.result.now.vertex ≡ (entry_at c.args.search.now.entries.items c.loop-e.at).vertex
vertex c there =
    ap (λ (x : Reached). x.vertex) (entry-read c.args.search.now.entries.items c.loop-e.at c.index-in-Some.result.now there c.index-in-Some.ensures)

pub prove-unreachable-requires : goal.prove-unreachable-requires
prove-unreachable-requires c =
    let at = goal.at.prove-unreachable-requires c in
    let old = c.args.flow.now in
    let enters = sym c.far.ensures.end ∙ c.if-far-index.true ∙ vertex at.After-index-in-Some (within at.After-index) in
    omega (
      arith,
      c.room_above.ensures,
      c.if-prove.true,
      onward-room c.args.net.now c.args.ranges.now c.args.side old c.args.search.now.entries.items c.args.search.now.marked.items c.requires.search c.args.target c.requires.target c.loop-e.flow c.loop-e.at c.in-Some.e c.in-Some.from c.loop-e.invariant (way at.In-Some (within at.After-index)) enters,
    )

pub prove-unreachable-requires-else-far-index : goal.prove-unreachable-requires-else-far-index
prove-unreachable-requires-else-far-index c =
    let at = goal.at.prove-unreachable-requires-else-far-index c in
    let old = c.args.flow.now in
    let other : far c.args.net.now c.args.side c.in-Some.e ≢ (entry_at c.args.search.now.entries.items c.loop-e.at).vertex
    = λ enters. c.if-far-index.false (c.far.ensures.end ∙ enters ∙ sym (vertex at.After-index-in-Some (within at.After-index))) in
    omega (
      arith,
      c.room_below.ensures,
      c.if-prove-2.true,
      back-room c.args.net.now c.args.ranges.now c.args.side old c.args.search.now.entries.items c.args.search.now.marked.items c.requires.search c.args.target c.requires.target c.loop-e.flow c.loop-e.at c.in-Some.e c.in-Some.from c.loop-e.invariant (way at.In-Some (within at.After-index)) other,
    )

pub loop-e-preserved-then-far-index : goal.loop-e-preserved-then-far-index
loop-e-preserved-then-far-index c =
    let at = goal.at.loop-e-preserved-then-far-index c in
    Sends-onward c.args.net.now c.args.ranges.now c.args.side c.args.flow.now c.args.search.now.entries.items c.args.search.now.marked.items c.requires.search c.args.target c.requires.target c.loop-e.flow c.loop-e.at c.in-Some.e c.in-Some.from c.loop-e.invariant (way at.In-Some (within at.After-index))
    (sym c.far.ensures.end ∙ c.if-far-index.true ∙ vertex at.After-index-in-Some (within at.After-index))

pub loop-e-preserved : goal.loop-e-preserved
loop-e-preserved c =
    let at = goal.at.loop-e-preserved c in
    Sends-back c.args.net.now c.args.ranges.now c.args.side c.args.flow.now c.args.search.now.entries.items c.args.search.now.marked.items c.requires.search c.args.target c.requires.target c.loop-e.flow c.loop-e.at c.in-Some.e c.in-Some.from c.loop-e.invariant (way at.In-Some (within at.After-index))
    (λ enters. c.if-far-index.false (c.far.ensures.end ∙ enters ∙ sym (vertex at.After-index-in-Some (within at.After-index))))

pub returns-clause-sent : goal.returns-clause-sent
returns-clause-sent c =
    let at = goal.at.returns-clause-sent c in
    let g = c.args.net.now in
    let entries = c.args.search.now.entries.items in
    let read = entry-read entries c.loop-e.at c.index.result.now (within at.After-index) c.index.ensures in
    Sends-all g c.args.ranges.now c.args.side c.args.flow.now entries c.args.search.now.marked.items c.requires.search c.args.target c.requires.target c.loop-e.flow c.loop-e.at c.loop-e.invariant
    (sym (ap (λ (x : Reached). x.way) read) ∙ c.in_default.is)
    (subst (λ (x : Reached). x.vertex < g.vertices) read
    (read-below (residual g c.args.ranges.now c.args.side (slice_index c.args.flow.now)) entries c.args.search.now.marked.items c.loop-e.at c.index.result.now c.requires.search (within at.After-index) c.index.ensures))
