use Rattle.std.proofs.Common.{◌≡◌, length, sym, ◌∙◌, arith}
use Rattle.std.proofs.lemmas.Bool.{eqb-false}
use Rattle.report_reading.proofs.Blanks.{ends_blank-last}
use Rattle.report_reading.proofs.head_lines.ends_blank.Goals as goal

pub returns-then-not-is_empty : goal.returns-then-not-is_empty
returns-then-not-is_empty c =
    let some : length c.args.bytes.now ≡ 0 → ⊥ = eqb-false _ 0 (sym c.is_empty.ensures ∙ c.if-not-is_empty.true) in
    c.is_blank.ensures ∙ ends_blank-last c.args.bytes.now (omega arith)
