use Rattle.std.proofs.Common.{◌≡◌, ◌+◌, ◌-◌, take, ap, sym, ◌∙◌, arith}
use Rattle.std.specs.Prelude.{reverse}
use Rattle.graph_text.specs.Blocks.{after_blanks}
use Rattle.graph_text.proofs.Splitting.{after_blanks-reverse_more}
use Rattle.graph_text.proofs.fields.trimmed.Goals as goal

pub loop-end-preserved : goal.loop-end-preserved
loop-end-preserved c =
    let rest = c.after_blanks-rest.result.now in
    let e : c.loop-end.end - 1 + 1 ≡ c.loop-end.end = omega arith in (
      omega arith,
      sym (after_blanks-reverse_more rest (c.loop-end.end - 1) (omega arith) (sym c.is_blank.ensures ∙ c.if-is_blank.true))
          ∙ ap (λ n. after_blanks (reverse (take n rest))) e ∙ c.loop-end.invariant.1,
    )
