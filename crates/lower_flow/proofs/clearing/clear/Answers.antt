use Rattle.std.proofs.Common.{◌<◌, List, Bool, length, slice_index, inl, inr, sym, subst, ◌∙◌, arith, eq-eqb}
use Rattle.std.proofs.lemmas.Bool.{cases_lt, both_ways}
use Rattle.lower_flow.specs.Residual.{residual}
use Rattle.dag_net.specs.Marks.{is_set}
use Rattle.lower_flow.specs.Search.{entry_at, IsClosed}
use Rattle.lower_flow.specs.Clearing.{AreMarked}
use Rattle.lower_flow.proofs.Searching.{first-starts, vertex-below}
use Rattle.lower_flow.proofs.Crossing.{IsCut-closed}
use Rattle.lower_flow.proofs.clearing.clear.Goals as goal

pub returns-clause-cut : goal.returns-clause-cut
returns-clause-cut c =
    let g = c.args.net.now in
    let flow = c.loop-search.flow in
    let entries = c.loop-search.search.entries.items in
    let marked = c.loop-search.search.marked.items in
    let r = residual g c.args.ranges.now c.args.side (slice_index flow) in
    let closed : IsClosed r (is_set marked) = rw c.in_default.is at c.loop-search.invariant.ends in
    let some : 0 < length entries
    = elim (cases_lt 0 (length entries)) [ inl some ↦ some | inr none ↦ absurd (both_ways _ (sym c.is_empty.ensures ∙ c.if-is_empty.false) (eq-eqb _ 0 (omega (arith, c.loop-search.search.entries.ok.0)))) ] in
    let those = subst (λ (ms : List Bool). AreMarked ms g.vertices c.in_ok-marked_vertices.field-0) c.deref.ensures.value c.in_ok-marked_vertices.ensures in (
      IsCut-closed c.args.side g c.requires.net c.args.ranges.now flow c.loop-search.invariant.ranged marked closed (entry_at entries 0).vertex (vertex-below r entries marked 0 c.loop-search.invariant.search some)
          (first-starts r entries marked c.loop-search.invariant.search some) c.in_ok-marked_vertices.field-0 those,
      those.rising,
    )
