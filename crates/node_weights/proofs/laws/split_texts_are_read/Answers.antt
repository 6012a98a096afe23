use Rattle.node_weights.proofs.SplitReads.{split_texts_are_one_block, split_blocks_are_read, split_blocks_are_instances}
use Rattle.node_weights.proofs.laws.split_texts_are_read.Goals as goal

pub returns-clause-one_block : goal.returns-clause-one_block
returns-clause-one_block c = split_texts_are_one_block

pub returns-clause-graph : goal.returns-clause-graph
returns-clause-graph c = split_blocks_are_read

pub returns-clause-instance : goal.returns-clause-instance
returns-clause-instance c = split_blocks_are_instances
