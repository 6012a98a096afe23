use Rattle.std.proofs.Common.{take, get_or, max, sym, ap, ◌∙◌, arith}
use Rattle.std.proofs.lemmas.List.{take_more}
use Rattle.node_routes.specs.Split.{heaviest}
use Rattle.node_weights.proofs.SplitTexts.{heaviest-push, max_is}
use Rattle.node_weights.proofs.split.heaviest.Goals as goal

pub loop-weight-preserved : goal.loop-weight-preserved
loop-weight-preserved c =
    let ws = c.args.weights.now in
    let i = c.loop-weight.weight-index in
    let w = get_or ws i 0 in
    c.max-most.ensures
    ∙ max_is c.loop-weight.most w
    ∙ ap (λ n. max n w) c.loop-weight.invariant
    ∙ sym (heaviest-push (take i ws) w)
    ∙ ap heaviest (sym (take_more ws i 0 (omega arith)))
