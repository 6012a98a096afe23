use Rattle.std.proofs.Common.{ap, sym, ◌∙◌, length}
use Rattle.std.specs.Prelude.{◌==◌}
use Rattle.graph_text.proofs.Splitting.{blank_kind}
use Rattle.graph_text.proofs.fields.is_blank_text.Goals as goal

pub returns : goal.returns
returns c = c.is_empty.ensures ∙ ap (λ rest. length rest == 0) c.after_blanks.ensures ∙ sym (blank_kind c.args.text.now)
