use Rattle.std.proofs.Common.{◌≡◌, List, Bool, false, length, slice_index, sym, subst, arith}
use Rattle.dag_net.specs.Marks.{is_set}
use Rattle.path_cover.specs.Search.{IsBegun}
use Rattle.path_cover.specs.declared.search.Reached.{Reached}
use Rattle.dag_net.proofs.Marks.{set-none}
use Rattle.path_cover.proofs.Searching.{IsBegun-empty}
use Rattle.path_cover.proofs.search.Search.sink_from_sources.Goals as goal

pub enter_sources-requires : goal.enter_sources-requires
enter_sources-requires c =
    let g = c.args.net.now in
    let marked = c.in_ok-vec.field-0.items in
    let items = c.in_ok-vec.ensures.items_if_clones_equal (λ y e. e) in
    let count : length marked ≡ g.vertices = omega (arith, c.in_ok-vec.ensures.len, c.vertices.ensures.vertices, c.in_ok-vec.field-0.ok.0) in
    subst (λ (entries : List Reached). IsBegun g entries marked) (sym c.new.ensures.items)
    (IsBegun-empty g marked count (λ v. subst (λ (ms : List Bool). is_set ms v ≡ false) (sym items) (set-none c.vertices.result v)))

pub run-requires-clause-search : goal.run-requires-clause-search
run-requires-clause-search c = c.in_ok-enter_sources.ensures.begun (is_set c.args.needed.now) (slice_index c.args.flow.now)
