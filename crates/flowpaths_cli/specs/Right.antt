-- When a report is right for a block, and the status of a run.
pub use Rattle.report_reading.specs.BadLines.{IsTextOf}
pub use Rattle.program_runs.specs.HandedBlocks.{labels_of}
use Rattle.std.specs.Prelude.{◌≡◌, ◌≤◌, ℕ, List, Bool, true, false, if◌then◌else◌, Result, Ok, Err, IfSome, IsTrue}
use Rattle.std.specs.List.{list_any}
use Rattle.decomposition.specs.declared.Mode.TheVariants.{Exact}
use Rattle.decomposition.specs.Instance.{Instance}
use Rattle.flow_io.specs.declared.status.Status.{Status}
use Rattle.flow_io.specs.declared.status.Status.TheVariants.{Clean, Partial, Refused as SomeRefused}
use Rattle.flow_solver.specs.Right.{SolvedRight as RightAsAsked}
use Rattle.graph_text.specs.Blocks.{TextBlock, name_of}
use Rattle.graph_text.specs.Reading.{read, instance_of}
use Rattle.graph_text.specs.declared.block.RawGraph.{RawGraph}
use Rattle.report_terms.specs.declared.refusal.Refusal.{Refusal}
use Rattle.report_terms.specs.declared.report.Report.{Report}
use Rattle.report_terms.specs.declared.report.Solved.{Solved}
use Rattle.report_terms.specs.declared.report.Body.{Body}
use Rattle.report_terms.specs.declared.report.Body.TheVariants.{Refused, Solved as SolvedBody}
use Rattle.report_terms.specs.declared.report.Mark.{Mark}
use Rattle.report_terms.specs.declared.report.Mark.TheVariants.{Optimal, Infeasible, Bounds}
use Rattle.report_terms.specs.NetFacts.{is_mode}
use Rattle.flowpaths_cli.specs.Asked.{asked_by}
use Rattle.flowpaths_cli.specs.Numbers.{most_nodes, most_seed}
use Rattle.flowpaths_cli.specs.declared.settings.Settings.{Settings}

-- a solved report is right and true for an instance, by what the settings ask
abbrev pub SolvedRight : Settings → Instance → Solved → Type 0
SolvedRight set i s = RightAsAsked (asked_by set) i s

-- The settings that are built: a model, numbers in their ranges, and safe runs and a generated text in the exact model alone.
pub record AreBuilt (s : Settings) : Type 0 where
  pub least : 1 ≤ s.nodes
  pub most : s.nodes ≤ most_nodes
  pub mode : IsTrue (is_mode s.mode)
  pub safe : s.safe ≡ true → s.mode ≡ Exact
  pub demo : IfSome s.demo (λ seed. (s.mode ≡ Exact) × (seed ≤ most_seed))

-- a body is right for what its block is read as: the same refusal, or a right solved report
abbrev pub BodyRight : Settings → Result RawGraph Refusal → Body → Type 0
BodyRight set (Err refusal) (Refused r) = r ≡ refusal
BodyRight set (Err refusal) (SolvedBody s) = ⊥
BodyRight set (Ok graph) (Refused r) = ⊥
BodyRight set (Ok graph) (SolvedBody s) = SolvedRight set (instance_of graph) s

-- the report is right for the block under these settings, and the text is its text
pub record IsReportOf (s : Settings) (block : TextBlock) (report : Report) (text : List ℕ) : Type 0 where
  pub index_is : report.index ≡ block.index
  pub name_is : report.name ≡ name_of block
  pub mode_is : report.mode ≡ s.mode
  pub body_is : BodyRight s (read s.mode block) report.body
  pub spelled : IsTextOf (labels_of (read s.mode block)) report text

-- whether a body is a refusal
abbrev pub is_refused : Body → Bool
is_refused (Refused r) = true
is_refused (SolvedBody s) = false

-- whether a mark leaves the optimum open
abbrev pub is_open_mark : Mark → Bool
is_open_mark Optimal = false
is_open_mark Infeasible = false
is_open_mark Bounds = true

-- whether a body is of a block that is not decided
abbrev pub is_open : Body → Bool
is_open (Refused r) = false
is_open (SolvedBody s) = is_open_mark s.mark

-- the status of a run with these reports
abbrev pub status_of : List Report → Status
status_of reports = if list_any (λ r. is_refused r.body) reports then SomeRefused
    else (if list_any (λ r. is_open r.body) reports then Partial else Clean)
