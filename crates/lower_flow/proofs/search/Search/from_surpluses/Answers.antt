use Rattle.std.proofs.Common.{◌≡◌, List, Bool, false, length, slice_index, sym, subst, arith}
use Rattle.lower_flow.specs.Residual.{residual}
use Rattle.dag_net.specs.Marks.{is_set}
use Rattle.lower_flow.specs.Search.{IsSearch}
use Rattle.lower_flow.specs.declared.search.Reached.{Reached}
use Rattle.dag_net.proofs.Marks.{set-none}
use Rattle.lower_flow.proofs.Searching.{IsSearch-empty}
use Rattle.lower_flow.proofs.search.Search.from_surpluses.Goals as goal

pub enter_surpluses-requires-clause-search : goal.enter_surpluses-requires-clause-search
enter_surpluses-requires-clause-search c =
    let r = residual c.args.net.now c.args.ranges.now c.args.side (slice_index c.args.flow.now) in
    let marked = c.in_ok-vec.field-0.items in
    let items = c.in_ok-vec.ensures.items_if_clones_equal (λ y e. e) in
    let count : length marked ≡ r.vertices = omega (arith, c.in_ok-vec.ensures.len, c.vertices.ensures.vertices, c.in_ok-vec.field-0.ok.0) in
    subst (λ (entries : List Reached). IsSearch r entries marked) (sym c.new.ensures.items) (IsSearch-empty r marked count (λ v. subst (λ (ms : List Bool). is_set ms v ≡ false) (sym items) (set-none c.vertices.result v)))
