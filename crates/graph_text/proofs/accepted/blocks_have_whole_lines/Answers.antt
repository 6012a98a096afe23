use Rattle.graph_text.proofs.WholeLines.{blocks_have_whole_lines}
use Rattle.graph_text.proofs.accepted.blocks_have_whole_lines.Goals as goal

pub returns : goal.returns
returns c = blocks_have_whole_lines
