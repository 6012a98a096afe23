use Rattle.std.proofs.Common.{◌∙◌, ap, ◌+◌, ◌≤◌, length, arith}
use Rattle.graph_text.specs.Lines.{without_return}
use Rattle.graph_text.proofs.Holding.{HoldsBlock-next, added-count}
use Rattle.graph_text.proofs.cutter.Cutter.end_line.Goals as goal

pub returns-clause-ends : goal.returns-clause-ends
returns-clause-ends c = λ left held.
    let kept = c.add_line.ensures.kept in
    let l = without_return left.open_line in
    let within : length left.ended ≤ left.line = omega (arith, held.line_is, held.ended_are) in
    let adds = c.in_ok-is_added.ensures.adds left held within in
    let next = HoldsBlock-next c.add_line.new.self left.line left.ended l within adds.block_is in
    record {
      blocks_are = kept.blocks_kept ∙ held.blocks_are;
      line_is = ap (λ n. n + 1) (kept.line_kept ∙ held.line_is);
      ended_are = let count = added-count left.ended _ l c.in_ok-is_added.is_added adds.lines_are in omega (arith, kept.ended_kept, held.ended_are, c.from.ensures);
      open_line_is = c.clear.ensures;
      block_is = record { name_is = next.name_is; drafts = next.drafts };
    }
