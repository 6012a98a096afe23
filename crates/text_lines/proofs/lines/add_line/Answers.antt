use Rattle.std.proofs.Common.{ℕ, List, [], ◌∷◌, ◌++◌, ap, ◌∙◌, arith}
use Rattle.std.proofs.lemmas.List.{take_all}
use Rattle.std.specs.Prelude.{flat_map}
use Rattle.text_lines.proofs.LineFields.{spaced_now, line-of}
use Rattle.text_lines.proofs.lines.add_line.Goals as goal

pub returns : goal.returns
returns c =
    c.in_ok-push.ensures.items
    ∙ ap (λ (x : List ℕ). x ++ 10 ∷ [])
    (c.loop-field.invariant ∙ ap (λ fs. (c.args.text.now.items ++ c.args.word.now) ++ flat_map spaced_now fs) (take_all c.loop-field.field-index c.args.fields.now (omega arith)))
    ∙ line-of c.args.text.now.items c.args.word.now c.args.fields.now
