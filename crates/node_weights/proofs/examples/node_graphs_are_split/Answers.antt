-- by computation
use Rattle.std.proofs.Common.{refl}
use Rattle.std.specs.Fmt.{digits}
use Rattle.node_weights.specs.SplitText.{split_text}
use Rattle.node_weights.proofs.examples.node_graphs_are_split.Goals as goal

pub returns : goal.returns
unfolding split_text digits
returns c = record { tree = refl; weightless = refl; empty = refl }
