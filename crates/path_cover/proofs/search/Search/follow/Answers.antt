use Rattle.std.proofs.Common.{◌≡◌, ◌<◌, length, Some, inl, inr, slice_index, sym, ◌∙◌, arith}
use Rattle.std.proofs.lemmas.Result.{on_ok_weaker}
use Rattle.decomposition.specs.Graph.{tail}
use Rattle.dag_net.specs.Marks.{is_set}
use Rattle.path_cover.specs.Search.{entry_at, Enters}
use Rattle.path_cover.proofs.Searching.{entry-read, IsEntered, IsEntered-from}
use Rattle.path_cover.proofs.search.Search.follow.Goals as goal
use Rattle.path_cover.proofs.search.Search.follow.Goals.{After-enter, After-enter-then-can_spare}

against : (c : After-enter) → Enters c.args.self.now.entries.items c.args.self.now.marked.items (record { vertex = c.tail.result; way = Some (c.args.e, c.args.k) }) c.enter.new.self.entries.items c.enter.new.self.marked.items
    → IsEntered c.args.net.now (is_set c.args.needed.now) (slice_index c.args.flow.now) c.args.self.now.entries.items c.args.self.now.marked.items (record { vertex = c.tail.result; way = Some (c.args.e, c.args.k) }) c.enter.new.self.entries.items c.enter.new.self.marked.items
against c enters =
    let entries = c.args.self.now.entries.items in
    let within : c.args.k < length entries = omega (arith, c.requires.at.place, c.args.self.now.entries.ok.0) in
    let read = entry-read entries c.args.k c.index.result.now within c.index.ensures in
    IsEntered-from c.args.net.now (is_set c.args.needed.now) (slice_index c.args.flow.now) c.args.self.now.entries.items c.args.self.now.marked.items (record { vertex = c.tail.result; way = Some (c.args.e, c.args.k) }) c.enter.new.self.entries.items c.enter.new.self.marked.items
    c.requires.at.search c.tail.ensures.vertex
    (record {
      edge = c.requires.edge;
      earlier = omega (arith, c.requires.at.place, c.args.self.now.entries.ok.0);
      goes_on = c.requires.at.goes_on;
      step = inr (sym c.head.ensures.head ∙ c.if-head-index.true ∙ read, sym c.tail.ensures.tail);
    })
    enters

along : (c : After-enter-then-can_spare) → Enters c.args.self.now.entries.items c.args.self.now.marked.items (record { vertex = c.head-then-can_spare.result; way = Some (c.args.e, c.args.k) }) c.enter-then-can_spare.new.self.entries.items c.enter-then-can_spare.new.self.marked.items
    → IsEntered c.args.net.now (is_set c.args.needed.now) (slice_index c.args.flow.now) c.args.self.now.entries.items c.args.self.now.marked.items (record { vertex = c.head-then-can_spare.result; way = Some (c.args.e, c.args.k) }) c.enter-then-can_spare.new.self.entries.items c.enter-then-can_spare.new.self.marked.items
along c enters =
    let entries = c.args.self.now.entries.items in
    let within : c.args.k < length entries = omega (arith, c.requires.at.place, c.args.self.now.entries.ok.0) in
    let read = entry-read entries c.args.k c.index.result.now within c.index.ensures in
    let leaves : tail c.args.net.now c.args.e ≡ (entry_at c.args.self.now.entries.items c.args.k).vertex
    = elim c.requires.end [ inl at ↦ at | inr at ↦ absurd (c.if-head-index.false (c.head.ensures.head ∙ at ∙ sym read)) ] in
    IsEntered-from c.args.net.now (is_set c.args.needed.now) (slice_index c.args.flow.now) c.args.self.now.entries.items c.args.self.now.marked.items (record { vertex = c.head-then-can_spare.result; way = Some (c.args.e, c.args.k) }) c.enter-then-can_spare.new.self.entries.items c.enter-then-can_spare.new.self.marked.items
    c.requires.at.search c.head-then-can_spare.ensures.vertex
    (record {
      edge = c.requires.edge;
      earlier = omega (arith, c.requires.at.place, c.args.self.now.entries.ok.0);
      goes_on = c.requires.at.goes_on;
      step = inl (leaves, sym c.head-then-can_spare.ensures.head, c.can_spare.ensures.0 c.if-can_spare.true);
    })
    enters

pub returns-then-head-index-clause-kept : goal.returns-then-head-index-clause-kept
returns-then-head-index-clause-kept c =
    on_ok_weaker c.enter.result (λ enters. let is = against (goal.at.returns-then-head-index-clause-kept c).After-enter enters in record { search = is.search; grows = is.grows }) c.enter.ensures

pub returns-then-can_spare-clause-kept : goal.returns-then-can_spare-clause-kept
returns-then-can_spare-clause-kept c =
    on_ok_weaker c.enter-then-can_spare.result (λ enters. let is = along (goal.at.returns-then-can_spare-clause-kept c).After-enter-then-can_spare enters in record { search = is.search; grows = is.grows }) c.enter-then-can_spare.ensures
