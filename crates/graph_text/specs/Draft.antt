-- What a draft of a block stands for: the lines that it was given.
use Rattle.std.specs.Prelude.{◌≡◌, ◌≤◌, List, Bool, map, AllPairs, None, option_to_list}
use Rattle.std.specs.List.{list_any}
use Rattle.decomposition.specs.declared.Mode.{Mode}
use Rattle.graph_text.specs.declared.draft.Draft.{Draft}
use Rattle.graph_text.specs.Constraints.{listing_of}
use Rattle.graph_text.specs.DraftGraph.{HoldsEdges, numbers_of}
pub use Rattle.graph_text.specs.LineFaults.{is_content, settled_refusals}
use Rattle.graph_text.specs.Lines.{are_run_fields}
use Rattle.graph_text.specs.Reading.{Line, constraint_lines, edge_lines, last_filled, earliest}
pub use Rattle.graph_text.specs.ShownLine.{ShowsLine}

-- whether a line is a `#S` line
abbrev pub is_run : Line → Bool
is_run l = are_run_fields l.fields

-- A draft of a block of which these lines have come. As long as no line is refused, its constraints are those of the
-- `#S` lines, and its graph is that of the edge lines.
pub record Drafts (mode : Mode) (lines : List Line) (draft : Draft) : Type 0 where
  pub mode_is : draft.mode ≡ mode
  pub rising : AllPairs (λ a b. a.number ≤ b.number) lines
  pub filled : draft.is_filled ≡ list_any is_content lines
  pub last : option_to_list draft.last_filled ≡ numbers_of (last_filled lines)
  pub run : draft.has_run ≡ list_any is_run lines
  pub refusal_is : draft.refusal ≡ earliest (settled_refusals mode lines)
  pub constraints_are : draft.refusal ≡ None → draft.constraints ≡ map listing_of (constraint_lines lines)
  pub graph_is : draft.refusal ≡ None → HoldsEdges mode (edge_lines lines) draft.graph
