use Rattle.std.proofs.Common.{◌∙◌}
use Rattle.graph_text.proofs.KeptLines.{line-shows, line-text, line-blank}
use Rattle.graph_text.proofs.open_line.OpenLine.line.Goals as goal

pub returns-clause-shows : goal.returns-clause-shows
returns-clause-shows c = λ bytes number held.
    line-shows number _ bytes _ _ (c.as_slice-kept.ensures.value ∙ held.kept) held.counted c.without_return-text.ensures.value

pub returns-clause-text : goal.returns-clause-text
returns-clause-text c = λ bytes held.
    line-text _ bytes _ _ (c.as_slice-kept.ensures.value ∙ held.kept) held.counted c.without_return-text.ensures.value

pub returns-clause-blank : goal.returns-clause-blank
returns-clause-blank c = λ bytes held. line-blank bytes _ _ (c.as_slice-kept.ensures.value ∙ held.kept) c.without_return-text.ensures.value
