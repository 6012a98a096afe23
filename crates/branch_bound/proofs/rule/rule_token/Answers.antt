use Rattle.std.proofs.Common.{◌∙◌, sym, None, Some}
use Rattle.branch_bound.proofs.Choosing.{rule_of-chosen}
use Rattle.branch_bound.proofs.rule.rule_token.Goals as goal

pub returns-in-Some-first_step : goal.returns-in-Some-first_step
returns-in-Some-first_step c =
    rule_of-chosen c.args.front.now c.args.slots None (Some c.in-Some-first_step.token) c.requires (sym c.in_default.is ∙ c.closes.ensures) (sym c.in-Some-first_step.is ∙ c.first_step.ensures)

pub returns-in-None : goal.returns-in-None
returns-in-None c =
    c.first_split.ensures
    ∙ rule_of-chosen c.args.front.now c.args.slots None None c.requires (sym c.in_default.is ∙ c.closes.ensures) (sym c.in-None.is ∙ c.first_step.ensures)
