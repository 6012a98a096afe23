use Rattle.std.proofs.Common.{◌≡◌, ℕ, List, sym, ap, ◌∙◌, arith}
use Rattle.std.specs.Borrow.{Bor}
use Rattle.std.specs.Str.{bytes_eq}
use Rattle.std.proofs.lemmas.List.{length-map}
use Rattle.report_reading.specs.LineFields.{texts, field_at}
use Rattle.report_reading.proofs.BorrowedFields.{starts_with-more, starts_with-not}
use Rattle.report_reading.proofs.fields.begin_with.Goals as goal
use Rattle.report_reading.proofs.fields.begin_with.Goals.{After-is_same}

-- what the test of the next word and the next field says
next : (c : After-is_same) → bytes_eq (field_at (texts c.args.words.now) c.loop-i.i) (field_at (texts c.args.fields.now) c.loop-i.i) ≡ c.is_same.result
next c =
    ap (λ word. bytes_eq word (field_at (texts c.args.fields.now) c.loop-i.i)) (sym c.field_at.ensures)
    ∙ ap (λ field. bytes_eq c.field_at.result.now field) (sym c.field_at-in-loop-i.ensures)
    ∙ sym c.is_same.ensures

pub returns-then-not-is_same : goal.returns-then-not-is_same
returns-then-not-is_same c =
    let text = λ (field : Bor (List ℕ)). field.now in
    sym
    (starts_with-not (texts c.args.fields.now) (texts c.args.words.now) c.loop-i.i (omega (arith, length-map c.args.fields.now text))
    (omega (arith, length-map c.args.words.now text))
    (next (goal.at.returns-then-not-is_same c).After-is_same ∙ c.if-not-is_same.true))
    ∙ c.loop-i.invariant

pub loop-i-preserved : goal.loop-i-preserved
loop-i-preserved c =
    let text = λ (field : Bor (List ℕ)). field.now in
    starts_with-more (texts c.args.fields.now) (texts c.args.words.now) c.loop-i.i (omega (arith, length-map c.args.fields.now text))
    (omega (arith, length-map c.args.words.now text))
    (next (goal.at.loop-i-preserved c).After-is_same ∙ c.if-not-is_same.false)
    ∙ c.loop-i.invariant
