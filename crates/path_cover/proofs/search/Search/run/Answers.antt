use Rattle.std.proofs.Common.{◌≡◌, ◌+◌, ◌-◌, ◌<◌, false, length, slice_index, sym, subst, ◌∙◌, arith}
use Rattle.decomposition.specs.Graph.{is_sink}
use Rattle.dag_net.specs.Marks.{is_set}
use Rattle.path_cover.specs.Search.{entry_at}
use Rattle.path_cover.proofs.Searching.{entry-read, Runs-more, Runs-all, vertex-below, IsSearch-few}
use Rattle.path_cover.proofs.search.Search.run.Goals as goal
use Rattle.path_cover.proofs.search.Search.run.Goals.{After-index}

vertex_is : (c : After-index) → c.index.result.now.vertex ≡ (entry_at c.loop-k.self.entries.items c.loop-k.k).vertex
vertex_is c =
    let entries = c.loop-k.self.entries.items in
    let within : c.loop-k.k < length entries = omega (arith, c.loop-k-test.true, c.len.ensures, c.loop-k.self.entries.ok.0) in
    entry-read entries c.loop-k.k c.index.result.now within c.index.ensures

pub is_sink-requires : goal.is_sink-requires
is_sink-requires c =
    let entries = c.loop-k.self.entries.items in
    let within : c.loop-k.k < length entries = omega (arith, c.loop-k-test.true, c.len.ensures, c.loop-k.self.entries.ok.0) in
    omega (arith, vertex_is (goal.at.is_sink-requires c).After-index, vertex-below c.args.net.now (is_set c.args.needed.now) (slice_index c.args.flow.now) entries c.loop-k.self.marked.items c.loop-k.k c.loop-k.invariant.search within)

pub loop-k-smaller : goal.loop-k-smaller
loop-k-smaller c =
    let few = IsSearch-few c.args.net.now (is_set c.args.needed.now) (slice_index c.args.flow.now) c.loop-k.self.entries.items c.loop-k.self.marked.items c.loop-k.invariant.search in
    let less : c.args.net.now.vertices - (c.loop-k.k + 1) < c.args.net.now.vertices - c.loop-k.k = omega (arith, few, c.loop-k-test.true, c.len.ensures, c.loop-k.self.entries.ok.0) in
    less

pub loop-k-preserved : goal.loop-k-preserved
loop-k-preserved c =
    let g = c.args.net.now in
    let old = c.loop-k.self in
    let within : c.loop-k.k < length old.entries.items = omega (arith, c.loop-k-test.true, c.len.ensures, old.entries.ok.0) in
    let no_sink = subst (λ v. is_sink g v ≡ false) (vertex_is (goal.at.loop-k-preserved c).After-index) (sym c.is_sink.ensures ∙ c.if-is_sink.false) in
    Runs-more g (is_set c.args.needed.now) (slice_index c.args.flow.now) old.entries.items old.marked.items c.visit.new.self.entries.items c.visit.new.self.marked.items c.loop-k.k c.loop-k.invariant within no_sink
    c.in_ok-visit.ensures.kept.search c.in_ok-visit.ensures.kept.grows c.in_ok-visit.ensures.visited

pub returns-clause-ends : goal.returns-clause-ends
returns-clause-ends c =
    Runs-all c.args.net.now (is_set c.args.needed.now) (slice_index c.args.flow.now) c.loop-k.self.entries.items c.loop-k.self.marked.items c.loop-k.k c.loop-k.invariant
    (omega (arith, c.loop-k-test.false, c.len.ensures, c.loop-k.self.entries.ok.0))
