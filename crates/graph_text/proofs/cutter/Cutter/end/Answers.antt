use Rattle.std.proofs.Common.{◌∙◌, ◌≤◌, length, arith, subst, sym, inl, inr, true, false, ◌-◌, Some}
use Rattle.graph_text.specs.Blocks.{blocks, complete}
use Rattle.graph_text.specs.Cutter.{Completes}
use Rattle.graph_text.specs.Progress.{left_by, with_open}
use Rattle.graph_text.proofs.Steps.{not_blank-graph}
use Rattle.graph_text.proofs.Holding.{graph-is, block-is, Continues-end, Completes-end}
use Rattle.graph_text.proofs.cutter.Cutter.end.Goals as goal

pub returns-in_ok-block-clause-last : goal.returns-in_ok-block-clause-last
returns-in_ok-block-clause-last c = λ bytes held.
    let left = left_by bytes in
    let lines = with_open left.open_line left.ended in
    let new = c.add_last_line.new.self in
    let kept = c.add_last_line.ensures.kept in
    let within : length left.ended ≤ left.line = omega (arith, held.line_is, held.ended_are) in
    let block = c.in_ok-add_last_line.ensures.adds left held within in
    let graph = graph-is (left.line - length left.ended) lines true (c.if-is_graph.ensures _ _ block.drafts) in
    let hands = block-is new left lines c.in_ok-block.block (kept.blocks_kept ∙ held.blocks_are) (kept.line_kept ∙ held.line_is) (kept.ended_kept ∙ held.ended_are)
    block (not_blank-graph lines (sym graph)) c.in_ok-block.ensures.block in
    inr (subst (λ m. Completes m (complete bytes) (blocks bytes) (Some c.in_ok-block.block)) kept.mode_kept (Completes-end new.mode bytes c.in_ok-block.block (sym graph) hands))

pub returns-else-is_graph-clause-last : goal.returns-else-is_graph-clause-last
returns-else-is_graph-clause-last c = λ bytes held.
    let left = left_by bytes in
    let lines = with_open left.open_line left.ended in
    let within : length left.ended ≤ left.line = omega (arith, held.line_is, held.ended_are) in
    let block = c.in_ok-add_last_line.ensures.adds left held within in
    inl (Continues-end bytes (sym (graph-is (left.line - length left.ended) lines false (c.if-is_graph.ensures _ _ block.drafts))))
