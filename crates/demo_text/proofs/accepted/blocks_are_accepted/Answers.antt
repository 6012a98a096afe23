use Rattle.demo_text.proofs.DemoBlocks.{blocks_are_accepted}
use Rattle.demo_text.proofs.accepted.blocks_are_accepted.Goals as goal

pub returns : goal.returns
returns c = blocks_are_accepted
