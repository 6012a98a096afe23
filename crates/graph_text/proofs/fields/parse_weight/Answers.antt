use Rattle.std.proofs.Common.{◌≡◌, ◌+◌, drop, position, ap, sym, ◌∙◌, rules}
use Rattle.std.specs.Prelude.{◌==◌}
use Rattle.std.proofs.lemmas.List.{take_rest}
use Rattle.std.proofs.lemmas.Iterator.{YieldsList-from_slice}
use Rattle.std.proofs.lemmas.Iterator.Search.{position_from_yields_List}
use borrow.Author.Tests.{tests}
use Rattle.graph_text.specs.Reading.{are_zeros}
use Rattle.graph_text.proofs.Weights.{weight_in-whole, weight_in-pointed, weight_in-broken}
use Rattle.graph_text.proofs.fields.parse_weight.Goals as goal
use Rattle.graph_text.proofs.fields.parse_weight.Goals.{After-position, After-are_zeros}

point : (c : After-position) → c.position.result ≡ position (λ b. b == 46) c.args.field.now
point c =
    position_from_yields_List (λ b. b == 46) _ _ c.position.result c.position.ensures.ran (YieldsList-from_slice c.args.field.now cc) (λ x b q k. search (rules, tests))

pub returns-in-None : goal.returns-in-None
returns-in-None c = c.whole_weight.ensures ∙ sym (weight_in-whole c.args.field.now (sym c.in-None.is ∙ point (goal.at.returns-in-None c).After-position))

-- what stands behind the point
behind : (c : After-are_zeros) → are_zeros (drop (c.in-Some.point + 1) c.args.field.now) ≡ c.are_zeros.result
behind c = ap are_zeros (sym (take_rest c.args.field.now (c.in-Some.point + 1))) ∙ sym c.are_zeros.ensures

pub returns-in-Some : goal.returns-in-Some
returns-in-Some c =
    c.whole_weight-in-Some.ensures
    ∙ sym (weight_in-pointed c.args.field.now c.in-Some.point (sym c.in-Some.is ∙ point (goal.at.returns-in-Some c).After-position)
    (behind (goal.at.returns-in-Some c).After-are_zeros ∙ c.if-are_zeros.true))

pub returns-in-Some-2 : goal.returns-in-Some-2
returns-in-Some-2 c =
    sym (weight_in-broken c.args.field.now c.in-Some.point (sym c.in-Some.is ∙ point (goal.at.returns-in-Some-2 c).After-position)
    (behind (goal.at.returns-in-Some-2 c).After-are_zeros ∙ c.if-are_zeros.false))
