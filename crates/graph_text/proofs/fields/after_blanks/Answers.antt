use Rattle.std.proofs.Common.{drop, ap, ◌∙◌}
use Rattle.std.proofs.lemmas.List.{take_rest}
use Rattle.graph_text.proofs.fields.after_blanks.Goals as goal

pub returns : goal.returns
returns c = take_rest c.args.text.now c.blanks_in_front.result ∙ ap (λ n. drop n c.args.text.now) c.blanks_in_front.ensures
