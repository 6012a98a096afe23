use Rattle.std.proofs.Common.{◌∙◌}
use Rattle.graph_text.proofs.KeptLines.{line-blank}
use Rattle.graph_text.proofs.open_line.OpenLine.is_blank_line.Goals as goal

pub returns : goal.returns
returns c = λ bytes held. c.is_empty.ensures ∙ line-blank bytes _ _ (c.as_slice.ensures.value ∙ held.kept) c.without_return.ensures.value
