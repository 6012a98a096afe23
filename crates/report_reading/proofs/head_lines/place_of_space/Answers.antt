use Rattle.std.proofs.Common.{◌≡◌, position, sym, ◌∙◌, rules}
use Rattle.std.specs.Prelude.{◌==◌}
use Rattle.std.proofs.lemmas.Iterator.{YieldsList-from_slice}
use Rattle.std.proofs.lemmas.Iterator.Search.{position_from_yields_List}
use borrow.Author.Tests.{tests}
use Rattle.report_reading.proofs.Blanks.{place-found, place-missing}
use Rattle.report_reading.proofs.head_lines.place_of_space.Goals as goal
use Rattle.report_reading.proofs.head_lines.place_of_space.Goals.{After-position}

found : (c : After-position) → c.position.result ≡ position (λ b. b == 32) c.args.bytes.now
found c =
    position_from_yields_List (λ b. b == 32) _ _ c.position.result c.position.ensures.ran (YieldsList-from_slice c.args.bytes.now cc) (λ x b q k. search (rules, tests))

pub returns-in-None : goal.returns-in-None
returns-in-None c = place-missing (λ b. b == 32) c.args.bytes.now (sym c.in-None.is ∙ found (goal.at.returns-in-None c).After-position)

pub returns-in-Some : goal.returns-in-Some
returns-in-Some c = place-found (λ b. b == 32) c.args.bytes.now c.in-Some.place (sym c.in-Some.is ∙ found (goal.at.returns-in-Some c).After-position)
