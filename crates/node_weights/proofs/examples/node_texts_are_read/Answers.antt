use Rattle.std.proofs.Common.{refl}
use Rattle.node_weights.specs.NodeText.{cause_after}
use Rattle.node_weights.proofs.examples.node_texts_are_read.Goals as goal

pub returns : goal.returns
unfolding cause_after
returns c = record { tree = refl; empty = refl; comments = refl; spelling = refl; between = refl }
