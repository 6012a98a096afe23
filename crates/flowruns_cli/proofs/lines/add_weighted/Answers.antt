use Rattle.std.proofs.Common.{ℕ, List, [], ◌∷◌, ◌++◌, ap, ◌∙◌}
use Rattle.std.specs.Prelude.{flat_map, decimal}
use Rattle.report_reading.specs.Names.{names_along}
use Rattle.text_lines.specs.TextLines.{spaced}
use Rattle.flowruns_cli.proofs.RunLines.{weighted_line-of}
use Rattle.flowruns_cli.proofs.lines.add_weighted.Goals as goal

pub returns : goal.returns
returns c =
    let names = flat_map spaced (names_along c.args.labels.now c.args.run.now) in
    c.in_ok-push.ensures.items
    ∙ ap (λ (x : List ℕ). x ++ 10 ∷ [])
    (c.in_ok-add_names.ensures
    ∙ ap (λ (x : List ℕ). x ++ names)
    (c.in_ok-add_field.ensures
    ∙ ap (λ (field : List ℕ). c.extend_from_slice.new.self.items ++ spaced field) (c.as_bytes.ensures.value ∙ c.in_ok-digits.ensures.ok)
    ∙ ap (λ (x : List ℕ). x ++ spaced (decimal c.args.number)) c.in_ok-extend_from_slice.ensures.items))
    ∙ weighted_line-of c.args.labels.now c.args.text.now.items c.args.word.now c.args.number c.args.run.now
