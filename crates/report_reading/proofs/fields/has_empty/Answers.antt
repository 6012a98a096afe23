use Rattle.std.proofs.Common.{◌∙◌, ℕ, List, length, rules}
use Rattle.std.specs.Prelude.{◌==◌}
use Rattle.std.specs.Borrow.{Bor}
use Rattle.std.proofs.lemmas.Iterator.{YieldsList-from_slice}
use Rattle.std.proofs.lemmas.Iterator.Search.{any_from_yields_List}
use borrow.Author.Tests.{tests}
use Rattle.report_reading.proofs.BorrowedFields.{list_any-texts}
use Rattle.report_reading.proofs.fields.has_empty.Goals as goal

pub returns : goal.returns
returns c =
    any_from_yields_List (λ (field : Bor (List ℕ)). length field.now == 0) _ _ c.any.result c.any.ensures.ran (YieldsList-from_slice c.args.fields.now cc) (λ x b q k. search (rules, tests))
    ∙ list_any-texts (λ field. length field == 0) c.args.fields.now
