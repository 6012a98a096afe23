-- the blocks of texts
use Rattle.graph_text.proofs.TextBlocks.{complete-block, blocks-block}
use Rattle.graph_text.proofs.laws.blocks_of_texts.Goals as goal

pub returns : goal.returns
returns c = record { complete = complete-block; all = blocks-block }
