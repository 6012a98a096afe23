use Rattle.std.proofs.Common.{◌≡◌, false, ap, sym, ◌∙◌, arith}
use Rattle.decomposition.specs.Boxes.{gap}
use Rattle.decomposition.specs.Tokens.{is_above}
use Rattle.flow_models.specs.Problem.{instance}
use Rattle.refute_tree.specs.OneBox.{place_of}
use Rattle.refute_tree.proofs.ClosingTokens.{closing_token-miss, closing_token-none}
use Rattle.refute_tree.proofs.closing.closing_token.Goals as goal

pub returns-then-is_missed : goal.returns-then-is_missed
returns-then-is_missed c =
    let i = instance c.args.net.now c.args.problem.now in
    let b = (place_of c.args.one.now).box in
    let low : is_above c.args.limit (gap i b) ≡ false = ap (is_above c.args.limit) (sym c.requires.beside.sums.gap) ∙ sym c.is_above.ensures ∙ c.if-is_above.false in
    sym (closing_token-miss i c.args.limit b c.loop-rule.rule low (omega arith) c.loop-rule.invariant (sym c.is_missed.ensures ∙ c.if-is_missed.true))

pub returns : goal.returns
returns c =
    let i = instance c.args.net.now c.args.problem.now in
    let b = (place_of c.args.one.now).box in
    let low : is_above c.args.limit (gap i b) ≡ false = ap (is_above c.args.limit) (sym c.requires.beside.sums.gap) ∙ sym c.is_above.ensures ∙ c.if-is_above.false in
    sym (closing_token-none i c.args.limit b low (λ j l. c.loop-rule.invariant j (omega arith)))
