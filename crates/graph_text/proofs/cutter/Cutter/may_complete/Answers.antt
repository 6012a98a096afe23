use Rattle.std.proofs.Common.{◌≡◌, ◌∙◌, sym, ap, ◌&&◌, length, ◌-◌, true, true≢false}
use Rattle.std.proofs.lemmas.Bool.{le-ltb}
use Rattle.std.specs.List.{list_all, list_any}
use Rattle.graph_text.specs.Lines.{is_blank, is_content_line}
use Rattle.graph_text.proofs.Steps.{any_content-numbered_lines}
use Rattle.graph_text.proofs.cutter.Cutter.may_complete.Goals as goal
use Rattle.graph_text.proofs.cutter.Cutter.may_complete.Goals.{then-self-gt0, else-self-gt0}

pub returns-then-is_blank-clause-tells : goal.returns-then-is_blank-clause-tells
returns-then-is_blank-clause-tells c = λ left held.
    let blank : list_all is_blank left.open_line ≡ true = elim c.if-self-gt0.branch [
      | then-self-gt0 w ↦ sym (w.is_blank.ensures left.open_line held.open_line_is) ∙ sym w.value-is ∙ c.if-is_blank.true
      | else-self-gt0 w ↦ absurd (true≢false (sym c.if-is_blank.true ∙ w.value-is ∙ le-ltb 0 c.args.self.now.ended w.if-self-gt0.false))
    ] in
    c.is_filled.ensures _ _ held.block_is.drafts ∙ any_content-numbered_lines (left.line - length left.ended) left.ended
    ∙ ap (λ b. b && list_any is_content_line left.ended) (sym blank)
