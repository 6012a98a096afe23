-- the laws of growing texts
use Rattle.graph_text.proofs.Growing.{complete-grows, blocks-begin}
use Rattle.graph_text.proofs.laws.complete_blocks_stay.Goals as goal

pub returns : goal.returns
returns c = record { grow = complete-grows; begin = blocks-begin }
