use Rattle.std.proofs.Common.{◌≡◌, ◌≢◌, ◌+◌, ◌-◌, ◌<◌, Some, length, slice_index, slice_set, sym, ◌∙◌, arith}
use Rattle.std.proofs.lemmas.Bool.{both_ways}
use Rattle.decomposition.specs.Graph.{head}
use Rattle.dag_net.specs.Marks.{is_set}
use Rattle.path_cover.specs.Search.{entry_at}
use Rattle.path_cover.proofs.Searching.{entry-read, way-read, IsSearch-few}
use Rattle.path_cover.proofs.Sending.{IsRaised-set, IsRaised-unset}
use Rattle.path_cover.proofs.LessFlow.{step-at, TakesUnit-lower, TakesUnit-raise}
use Rattle.path_cover.proofs.lessening.take_unit.Goals as goal
use Rattle.path_cover.proofs.lessening.take_unit.Goals.{In-Some, After-index-in-Some}

way-is : (c : In-Some) → (entry_at c.args.search.now.entries.items c.loop-e.at).way ≡ Some (c.in-Some.e, c.in-Some.from)
way-is c =
    let entries = c.args.search.now.entries.items in
    let within : c.loop-e.at < length entries = omega (arith, c.loop-e.invariant.within, c.requires.place, c.args.search.now.entries.ok.0) in
    way-read entries c.loop-e.at c.index.result.now (Some (c.in-Some.e, c.in-Some.from)) within c.index.ensures c.in-Some.is

vertex-is : (c : After-index-in-Some) → c.index-in-Some.result.now.vertex ≡ (entry_at c.args.search.now.entries.items c.loop-e.at).vertex
vertex-is c =
    let entries = c.args.search.now.entries.items in
    let within : c.loop-e.at < length entries = omega (arith, c.loop-e.invariant.within, c.requires.place, c.args.search.now.entries.ok.0) in
    entry-read entries c.loop-e.at c.index-in-Some.result.now within c.index-in-Some.ensures

pub prove-unreachable-requires : goal.prove-unreachable-requires
prove-unreachable-requires c =
    let enters = sym c.head.ensures.head ∙ c.if-head-index.true ∙ vertex-is (goal.at.prove-unreachable-requires c).After-index-in-Some in
    let spare = c.loop-e.invariant.spare c.loop-e.at c.in-Some.e c.in-Some.from (omega arith) (way-is (goal.at.prove-unreachable-requires c).In-Some) enters in
    both_ways _ c.if-prove.true (c.can_spare.ensures.1 spare)

pub overflow_add-flow : goal.overflow_add-flow
overflow_add-flow c =
    let g = c.args.net.now in
    let needed = is_set c.args.needed.now in
    let old = slice_index c.args.flow.now in
    let entries = c.args.search.now.entries.items in
    let marked = c.args.search.now.marked.items in
    let within : c.loop-e.at < length entries = omega (arith, c.loop-e.invariant.within, c.requires.place, c.args.search.now.entries.ok.0) in
    let s = step-at g needed old entries marked c.requires.search c.loop-e.at c.in-Some.e c.in-Some.from within (way-is (goal.at.overflow_add-flow c).In-Some) in
    omega (arith, s.earlier, IsSearch-few g needed old entries marked c.requires.search, c.loop-e.invariant.few c.in-Some.e, c.requires.small c.in-Some.e, c.requires.place, c.args.search.now.entries.ok.0)

pub loop-e-preserved-then-head-index : goal.loop-e-preserved-then-head-index
loop-e-preserved-then-head-index c =
    let g = c.args.net.now in
    let needed = is_set c.args.needed.now in
    let old = slice_index c.args.flow.now in
    let entries = c.args.search.now.entries.items in
    let flow = c.loop-e.flow in
    let e = c.in-Some.e in
    let last : c.args.last < length entries = omega (arith, c.requires.place, c.args.search.now.entries.ok.0) in
    let way = way-is (goal.at.loop-e-preserved-then-head-index c).In-Some in
    let enters = sym c.head.ensures.head ∙ c.if-head-index.true ∙ vertex-is (goal.at.loop-e-preserved-then-head-index c).After-index-in-Some in
    let s = step-at g needed old entries c.args.search.now.marked.items c.requires.search c.loop-e.at e c.in-Some.from (omega (arith, c.loop-e.invariant.within)) way in
    let spare = c.loop-e.invariant.spare c.loop-e.at e c.in-Some.from (omega arith) way enters in
    let raised = IsRaised-unset flow e (omega (arith, s.edge)) (omega (arith, spare)) in
    TakesUnit-lower g needed old entries c.args.search.now.marked.items c.requires.search c.args.last (slice_index flow) (slice_index (slice_set flow e (slice_index flow e - 1))) c.loop-e.at e c.in-Some.from last c.loop-e.invariant way enters raised

pub loop-e-preserved : goal.loop-e-preserved
loop-e-preserved c =
    let g = c.args.net.now in
    let needed = is_set c.args.needed.now in
    let old = slice_index c.args.flow.now in
    let entries = c.args.search.now.entries.items in
    let flow = c.loop-e.flow in
    let e = c.in-Some.e in
    let last : c.args.last < length entries = omega (arith, c.requires.place, c.args.search.now.entries.ok.0) in
    let way = way-is (goal.at.loop-e-preserved c).In-Some in
    let read = vertex-is (goal.at.loop-e-preserved c).After-index-in-Some in
    let other : head g e ≢ (entry_at entries c.loop-e.at).vertex = λ enters. c.if-head-index.false (c.head.ensures.head ∙ enters ∙ sym read) in
    let s = step-at g needed old entries c.args.search.now.marked.items c.requires.search c.loop-e.at e c.in-Some.from (omega (arith, c.loop-e.invariant.within)) way in
    TakesUnit-raise g needed old entries c.args.search.now.marked.items c.requires.search c.args.last (slice_index flow) (slice_index (slice_set flow e (slice_index flow e + 1))) c.loop-e.at e c.in-Some.from last c.loop-e.invariant way other
    (IsRaised-set flow e (omega (arith, s.edge)))

pub returns-clause-few : goal.returns-clause-few
returns-clause-few c = λ e.
    omega (
      arith,
      c.loop-e.invariant.few e,
      c.requires.place,
      c.args.search.now.entries.ok.0,
      IsSearch-few c.args.net.now (is_set c.args.needed.now) (slice_index c.args.flow.now) c.args.search.now.entries.items c.args.search.now.marked.items c.requires.search,
    )
