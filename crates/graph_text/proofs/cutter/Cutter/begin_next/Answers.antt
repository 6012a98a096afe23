use Rattle.std.proofs.Common.{◌∙◌, ◌+◌, ◌-◌, ap, subst, sym, refl}
use Rattle.graph_text.specs.OpenLine.{HoldsLine}
use Rattle.graph_text.proofs.Holding.{block-is, may_complete-lines}
use Rattle.graph_text.proofs.cutter.Cutter.begin_next.Goals as goal

pub returns-clause-block : goal.returns-clause-block
returns-clause-block c = λ left held filled.
    block-is c.args.self.now left left.ended _ held.blocks_are held.line_is held.ended_are held.block_is (may_complete-lines left filled) c.in_ok-block.ensures.block

pub returns-clause-holds : goal.returns-clause-holds
returns-clause-holds c = λ left held.
    let kept = c.complete.ensures.kept in
    let empty = c.complete.ensures.empty (left.line - 0) in
    record {
      blocks_are = ap (λ n. n + 1) (kept.blocks_kept ∙ held.blocks_are);
      line_is = kept.line_kept ∙ held.line_is;
      ended_are = refl;
      open_line_is = c.in_ok-extend.ensures left.open_line (subst (λ o. HoldsLine o left.open_line) (sym kept.open_line_kept) held.open_line_is);
      block_is = record { name_is = empty.name_is; drafts = empty.drafts };
    }
