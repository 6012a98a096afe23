use Rattle.std.proofs.Common.{◌∙◌, ℕ, List, ap, sym}
use Rattle.std.specs.Borrow.{Bor}
use Rattle.std.proofs.lemmas.List.{take_rest, drop-map}
use Rattle.report_reading.specs.LineFields.{texts}
use Rattle.report_reading.proofs.fields.fields_from.Goals as goal

pub returns-then-i-fields : goal.returns-then-i-fields
returns-then-i-fields c =
    ap texts (take_rest c.args.fields.now c.args.i) ∙ sym (drop-map (λ (field : Bor (List ℕ)). field.now) c.args.i c.args.fields.now)
