use Rattle.std.proofs.Common.{◌≡◌, ℕ, ◌≤◌, List, length, slice_index, sym, subst, ◌∙◌, arith}
use Rattle.std.specs.Vec.{with_items}
use Rattle.std.proofs.lemmas.List.{with_items_is}
use Rattle.decomposition.specs.declared.Side.TheVariants.{Leaving}
use Rattle.decomposition.specs.Graph.{edge_count}
use Rattle.decomposition.specs.Instance.{IsFlowWithin}
use Rattle.lower_flow.specs.Residual.{deficit}
use Rattle.lower_flow.specs.Found.{with_ranges}
use Rattle.lower_flow.proofs.Balances.{IsFlowWithin-cleared}
use Rattle.lower_flow.proofs.bounded.wide_flow_near.Goals as goal

pub returns : goal.returns
returns c =
    let g = c.args.net.now in
    let ranges = c.args.ranges.now in
    let first = c.clear.new.flow in
    let second = c.clear-2.new.flow in
    let once = with_items_is c.in_ok-flow.flow first (omega arith) in
    let twice = with_items_is (with_items c.in_ok-flow.flow first) second (omega arith) in
    let same : c.in_ok-numbers.field-0 ≡ second = c.in_ok-numbers.ensures ∙ c.deref.ensures.value ∙ twice in
    let kept = subst (λ (old : List ℕ). (v : ℕ) → deficit g Leaving (slice_index second) v ≤ deficit g Leaving (slice_index old) v) (c.deref_mut-2.ensures.value ∙ once) c.in_ok-cut-2.ensures.kept in
    let entering = rw c.in_default.is at c.in_ok-cut.ensures.cleared in
    let leaving = rw c.in_default-2.is at c.in_ok-cut-2.ensures.cleared in
    subst (λ (xs : List ℕ). (length xs ≡ edge_count g) × IsFlowWithin (with_ranges g ranges) (slice_index xs)) (sym same)
    (IsFlowWithin-cleared g c.in_ok-entering.ensures.net ranges first second c.in_ok-cut-2.ensures.ranged entering kept leaving)
