use Rattle.std.proofs.Common.{ℕ, Bool, not, ◌&&◌, eqb, ap, sym, ◌∙◌, rules}
use Rattle.std.specs.List.{list_all}
use Rattle.std.proofs.lemmas.Iterator.{YieldsList-from_slice}
use Rattle.std.proofs.lemmas.Iterator.Search.{all_from_yields_List}
use borrow.Author.Tests.{tests}
use Rattle.graph_text.proofs.fields.are_zeros.Goals as goal

abbrev zero_digit : ℕ → Bool
zero_digit byte = eqb byte 48

pub returns-then-not-is_empty : goal.returns-then-not-is_empty
returns-then-not-is_empty c =
    all_from_yields_List zero_digit _ _ c.all.result c.all.ensures.ran (YieldsList-from_slice c.args.bytes.now cc) (λ x b q k. search (rules, tests))
    ∙ ap (λ b. b && list_all zero_digit c.args.bytes.now) (sym (ap not (sym c.is_empty.ensures ∙ c.if-not-is_empty.true)))
