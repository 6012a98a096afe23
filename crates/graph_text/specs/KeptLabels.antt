-- The fields of `Labels`: which labels they stand for, and what they keep.
use Rattle.std.specs.Prelude.{◌<◌, ◌^◌, map, length}
use Rattle.graph_text.specs.Labels.{LabelLists, AreLabels}
use Rattle.graph_text.specs.declared.labels.Labels.TheInside.{Inside}

-- the labels that the fields stand for
abbrev pub shown : Inside → LabelLists
shown a = record { names = map (λ name. name.items) a.names.keys; edges = a.edges.keys }

-- they are labels, and each name and edge has a number of 32 bits
pub record AreKept (a : Inside) : Type 0 where
  pub labels : AreLabels (shown a)
  pub few_names : length a.names.keys < 2 ^ 32
  pub few_edges : length a.edges.keys < 2 ^ 32
