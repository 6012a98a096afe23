-- Whether an edge joins two names.
use Rattle.std.specs.Prelude.{ℕ, List, Contains}
use Rattle.graph_text.specs.Labels.{LabelLists}
use Rattle.graph_text.specs.Reading.{vertex_of}

-- some edge leads from the vertex of the first name to that of the second
pub record HasEdge (labels : LabelLists) (tail head : List ℕ) : Type 0 where
  pub tail_named : Contains labels.names tail
  pub head_named : Contains labels.names head
  pub joined : Contains labels.edges (vertex_of labels.names tail, vertex_of labels.names head)
