use Rattle.std.proofs.Common.{ℕ, Bool, not, ◌&&◌, leb, ap, sym, ◌∙◌, rules}
use Rattle.std.specs.List.{list_all}
use Rattle.std.proofs.lemmas.Iterator.{YieldsList-from_slice}
use Rattle.std.proofs.lemmas.Iterator.Search.{all_from_yields_List}
use borrow.Author.Tests.{tests}
use Rattle.report_reading.proofs.numbers.are_digits.Goals as goal

abbrev digit : ℕ → Bool
digit byte = leb 48 byte && leb byte 57

pub returns-then-not-is_empty : goal.returns-then-not-is_empty
returns-then-not-is_empty c =
    all_from_yields_List digit _ _ c.all.result c.all.ensures.ran (YieldsList-from_slice c.args.bytes.now cc) (λ x b q k. search (rules, tests))
    ∙ ap (λ b. b && list_all digit c.args.bytes.now) (sym (ap not (sym c.is_empty.ensures ∙ c.if-not-is_empty.true)))
