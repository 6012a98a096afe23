use Rattle.std.proofs.Common.{◌≡◌, ◌+◌, ◌-◌, ◌∙◌, length, take, drop, refl, ap}
use Rattle.std.proofs.lemmas.List.{take_rest, drop_min}
use Rattle.node_weights.proofs.FirstLine.{lines-split, line-no_feed}
use Rattle.node_weights.proofs.reader.split_line.Goals as goal
use Rattle.node_weights.proofs.reader.split_line.Goals.{After-without_return}

behind : (c : After-without_return) → take (length c.args.text.now - c.min.result) (drop c.min.result c.args.text.now) ≡ drop (c.line_end-end.result + 1) c.args.text.now
behind c =
    take_rest c.args.text.now c.min.result
    ∙ ap (λ n. drop n c.args.text.now) c.min.ensures
    ∙ drop_min (c.line_end-end.result + 1) c.args.text.now

pub returns-clause-lines : goal.returns-clause-lines
returns-clause-lines c =
    lines-split c.args.text.now _ c.without_return.result.now _ c.line_end-end.result c.requires c.line_end-end.ensures.place refl c.without_return.ensures (behind c)

pub returns-clause-one_line : goal.returns-clause-one_line
returns-clause-one_line c =
    line-no_feed c.args.text.now _ c.without_return.result.now _ c.line_end-end.result c.requires c.line_end-end.ensures.place refl c.without_return.ensures (behind c)
