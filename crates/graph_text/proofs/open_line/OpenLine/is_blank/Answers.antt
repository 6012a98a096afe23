use Rattle.std.proofs.Common.{◌==◌, ◌∙◌, ap, length, arith}
use Rattle.graph_text.proofs.KeptLines.{kept-empty}
use Rattle.graph_text.specs.OpenLine.{most_kept}
use Rattle.graph_text.proofs.open_line.OpenLine.is_blank.Goals as goal

pub returns : goal.returns
returns c = λ bytes held. c.is_empty.ensures ∙ ap (λ n. n == 0) c.args.self.now.text.ok.0 ∙ ap (λ l. length l == 0) held.kept ∙ kept-empty most_kept bytes (omega arith)
