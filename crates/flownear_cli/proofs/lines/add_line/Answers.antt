use Rattle.std.proofs.Common.{ℕ, List, [], ◌∷◌, ◌++◌, ap, ◌∙◌, arith}
use Rattle.std.proofs.lemmas.List.{take_all}
use Rattle.std.specs.Prelude.{flat_map}
use Rattle.flownear_cli.proofs.LineFields.{spaced, line-of}
use Rattle.flownear_cli.proofs.lines.add_line.Goals as goal

pub returns : goal.returns
returns c =
    c.in_ok-push-2.ensures.items
    ∙ ap (λ (x : List ℕ). x ++ 10 ∷ [])
    (c.loop-field.invariant ∙ ap (λ fs. (c.args.text.now.items ++ c.args.word.now) ++ flat_map spaced fs) (take_all c.loop-field.field-index c.args.fields.now (omega arith)))
    ∙ line-of c.args.text.now.items c.args.word.now c.args.fields.now
