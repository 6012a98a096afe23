-- When a text is right for a graph with weights on its vertices, and the status of a run.
use Rattle.std.specs.Prelude.{◌≡◌, ℕ, List, [], ◌∷◌, ◌++◌, length, Bool, true, false, None, IfSome, Result, Ok, Err}
use Rattle.decomposition.specs.declared.Mode.TheVariants.{Interval}
use Rattle.flow_io.specs.declared.status.Status.{Status}
use Rattle.flow_io.specs.declared.status.Status.TheVariants.{Clean, Refused as SomeRefused}
use Rattle.flowpaths_cli.specs.Right.{IsReportOf, status_of}
use Rattle.flowpaths_cli.specs.declared.settings.Settings.{Settings}
use Rattle.graph_text.specs.Blocks.{TextBlock, blocks}
use Rattle.node_routes.specs.Routes.{VertexGraph, Explains, IsFewest, IsUnexplained, NeedsRoutes}
use Rattle.node_routes.specs.Split.{routes_of}
use Rattle.node_weights.specs.NodeText.{NodeLists, read}
use Rattle.node_weights.specs.declared.node_fault.NodeWhy.{NodeWhy}
use Rattle.node_weights.specs.SplitText.{vertex_graph, split_text}
use Rattle.report_terms.specs.declared.report.Body.{Body}
use Rattle.report_terms.specs.declared.report.Body.TheVariants.{Refused, Solved as SolvedBody}
use Rattle.report_terms.specs.declared.report.Mark.TheVariants.{Optimal, Infeasible}
use Rattle.report_terms.specs.declared.report.Report.{Report}
use Rattle.report_terms.specs.declared.report.Solved.{Solved}
use Rattle.flownodes_cli.specs.RouteText.{refused_line, routes_text}

-- how the split graph is solved: every range is kept, a search takes at most 20,000 tokens, and no safe runs are listed
abbrev pub split_settings : Settings
split_settings = record { mode = Interval; nodes = 20000; safe = false; demo = None; file = [] }

-- the paths of a report
abbrev pub paths_in : Body → List (List ℕ × ℕ)
paths_in (Refused r) = []
paths_in (SolvedBody s) = s.paths

-- What a solved report says of a graph with weights on its vertices: the routes of its paths explain the weights, and are `upper` many; of an optimal one
-- none that explain are fewer, none at all explain where the mark is infeasible, and all that explain are at least `lower` many.
pub record IsTrueOfRoutes (g : VertexGraph) (s : Solved) : Type 0 where
  pub explained : IfSome s.upper (λ upper. Explains g (routes_of g s.paths) × (length s.paths ≡ upper))
  pub optimal : s.mark ≡ Optimal → IsFewest g (routes_of g s.paths)
  pub infeasible : s.mark ≡ Infeasible → IsUnexplained g
  pub bound : IfSome s.lower (NeedsRoutes g)

-- the same of a body, of which a refusal says nothing
abbrev pub SaysTrue : VertexGraph → Body → Type 0
SaysTrue g (Refused r) = Unit {0}
SaysTrue g (SolvedBody s) = IsTrueOfRoutes g s

-- the text is a right report for the block of a split graph, then a line for each route, and the last line
pub record IsRoutedText (g : NodeLists) (block : TextBlock) (status : Status) (text : List ℕ) : Type 0 where
  pub report : Report
  pub first : List ℕ
  pub right : IsReportOf split_settings block report first
  pub is_text : text ≡ first ++ routes_text g (paths_in report.body)
  pub status_is : status ≡ status_of (report ∷ [])

-- The text is right for a graph: the text of its split graph where that is asked for, and else a right report for its one block, with the routes,
-- of which it is true.
abbrev pub IsAnswerTo : Bool → NodeLists → Status → List ℕ → Type 0
IsAnswerTo true g status text = (text ≡ split_text g) × (status ≡ Clean)
IsAnswerTo false g status text =
    (block : TextBlock) × (blocks (split_text g) ≡ block ∷ []) × (told : IsRoutedText g block status text) × SaysTrue (vertex_graph g) told.report.body

-- the text is an output for what an input is read as: an answer to its graph, or the line of its refusal
abbrev pub IsOutputFor : Bool → Result NodeLists (ℕ × NodeWhy) → Status → List ℕ → Type 0
IsOutputFor split (Ok g) status text = IsAnswerTo split g status text
IsOutputFor split (Err refusal) status text = (text ≡ refused_line refusal.0 refusal.1) × (status ≡ SomeRefused)

-- the same for an input of these bytes
abbrev pub IsOutput : Bool → List ℕ → Status → List ℕ → Type 0
IsOutput split bytes status text = IsOutputFor split (read bytes) status text

-- the text is a beginning of an output
abbrev pub BeginsOutput : Bool → List ℕ → List ℕ → Type 0
BeginsOutput split bytes text = (rest : List ℕ) × (status : Status) × IsOutput split bytes status (text ++ rest)
