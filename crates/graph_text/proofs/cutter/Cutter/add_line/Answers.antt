use Rattle.std.proofs.Common.{◌∙◌, sym, subst, ◌-◌, length}
use Rattle.graph_text.specs.Draft.{Drafts}
use Rattle.graph_text.specs.Lines.{without_return}
use Rattle.graph_text.specs.OpenLine.{HoldsLine}
use Rattle.graph_text.specs.Reading.{numbered_lines}
use Rattle.graph_text.proofs.Holding.{Adds-from, Drafts-more}
use Rattle.graph_text.proofs.cutter.Cutter.add_line.Goals as goal

pub returns-clause-adds : goal.returns-clause-adds
returns-clause-adds c = λ left held within.
    let new = c.note_name.new.self in
    let kept = c.note_name.ensures.kept in
    let lines = numbered_lines (left.line - length left.ended) left.ended in
    let line = kept.line_kept ∙ held.line_is in
    let drafts = subst (λ m. Drafts m lines new.draft) (sym kept.mode_kept) (subst (λ d. Drafts c.args.self.now.mode lines d) (sym c.note_name.ensures.draft) held.block_is.drafts) in
    let held_line = subst (λ o. HoldsLine o left.open_line) (sym kept.open_line_kept) held.open_line_is in
    Adds-from _ left (c.if-not-is_of_block.ensures left held) (c.in_ok-note_name.ensures.name left held)
    (Drafts-more new.mode left.line left.ended (without_return left.open_line) _ _ new.line new.draft c.add.new.self within line drafts
    (c.line-is_long.ensures.shows left.open_line new.line held_line) c.in_ok-add.ensures)
