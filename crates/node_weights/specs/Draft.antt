-- What a draft of a node graph stands for: the lines that it was given, none of which is refused.
use Rattle.std.specs.Prelude.{◌≡◌, ℕ, ◌+◌, ◌≤◌, List, [], ◌∷◌, ◌++◌, length, true, false, nat_lt, All, Contains, Option, Some, None, map}
use Rattle.std.specs.Borrow.{Bor}
use Rattle.graph_text.specs.Lines.{fields_of, is_content_line}
use Rattle.graph_text.specs.Labels.{LabelLists}
use Rattle.graph_text.specs.Reading.{most_bytes, vertex_of}
use Rattle.node_weights.specs.declared.draft.NodeDraft.{NodeDraft}
use Rattle.node_weights.specs.declared.node_fault.NodeWhy.{NodeWhy}
use Rattle.node_weights.specs.declared.node_fault.LineFault.{LineFault}
use Rattle.node_weights.specs.declared.node_fault.LineFault.TheVariants.{Bad, Memory}
use Rattle.node_weights.specs.NodeText.{most_lines, content_lines, edge_lines, names_on, weights_on, edges_on, edge_numbers, second, third, cause_after, line_refusals}

-- one more line may come that is not ignored
abbrev pub HasRoom : LabelLists → Type 0
HasRoom labels = length labels.names + length labels.edges + 1 ≤ most_lines

-- the edge between the vertices of two names
pub record IsEdgeAmong (labels : LabelLists) (tail head : List ℕ) (edge : ℕ × ℕ) : Type 0 where
  pub tail_there : Contains labels.names tail
  pub head_there : Contains labels.names head
  pub tail_is : edge.0 ≡ vertex_of labels.names tail
  pub head_is : edge.1 ≡ vertex_of labels.names head

-- the draft of these lines
pub record HoldsLines (lines : List (List ℕ)) (draft : NodeDraft) : Type 0 where
  pub names : draft.labels.names ≡ names_on lines
  pub weights : draft.weights.items ≡ weights_on lines
  pub edges : draft.labels.edges ≡ edges_on lines
  pub numbers : draft.edge_numbers.items ≡ edge_numbers lines
  pub counted : length (content_lines lines) ≡ length draft.labels.names + length draft.labels.edges
  pub known : All (λ line. Contains (names_on lines) (second line) × Contains (names_on lines) (third line)) (edge_lines lines)

-- the draft of these lines, none of which is refused
pub record HoldsAll (lines : List (List ℕ)) (draft : NodeDraft) : Type 0 where
  pub holds : HoldsLines lines draft
  pub none : line_refusals lines ≡ []

-- the line is not refused after these lines, and the draft has become that of all of them
pub record Takes (lines : List (List ℕ)) (line : List ℕ) (draft : NodeDraft) : Type 0 where
  pub none : cause_after lines line ≡ None
  pub holds : HoldsLines (lines ++ line ∷ []) draft

-- the fault of a line with this cause; want of memory says nothing
abbrev pub IsFaultOf : Option NodeWhy → LineFault → Type 0
IsFaultOf cause (Bad why) = cause ≡ Some why
IsFaultOf cause Memory = Unit {0}

-- a line that is not ignored and not too long, with these fields
pub record HasFields (fields : List (List ℕ)) (line : List ℕ) : Type 0 where
  pub fields_are : fields_of line ≡ fields
  pub content : is_content_line line ≡ true
  pub short : nat_lt most_bytes (length line) ≡ false

-- what borrowed fields hold
abbrev pub texts : List (Bor (List ℕ)) → List (List ℕ)
texts fields = map (λ (field : Bor (List ℕ)). field.now) fields
