-- What a run of the top call took and wrote.
pub use Rattle.program_runs.specs.Inputs.{IsDone}
pub use Rattle.program_runs.specs.Writing.{WhereWritten}
pub use Rattle.program_runs.specs.HandedBlocks.{blocks_at}
use Rattle.std.specs.Prelude.{◌≡◌, ◌⊎◌, ℕ, ◌^◌, ◌<◌, List, [], ◌++◌, length, take, Option, Some, None, IsSome}
use Rattle.flow_io.specs.Outside.{Selected}
use Rattle.flow_io.specs.declared.status.Status.{Status}
use Rattle.flow_io.specs.declared.status.Status.TheVariants.{Fault, Memory, Long}
use Rattle.graph_text.specs.Blocks.{TextBlock, blocks, complete}
use Rattle.flowcheck_cli.specs.CheckLines.{ArePrinted, AreAllPrinted, IsPrinted, status_of_all}
use Rattle.program_runs.specs.Inputs.{Seen, left_of, taken, TakesFirst}
use Rattle.flowcheck_cli.specs.ReportTexts.{report_texts}
use Rattle.flowcheck_cli.specs.Words.{InputNames}
use Rattle.flowcheck_cli.specs.declared.outcome.Outcome.{Outcome}

-- what the inputs tell of a run: the bytes that both inputs hold, and what is selected at the end
pub record BothSeen : Type 0 where
  pub graphs : List ℕ
  pub reports : List ℕ
  pub last : Option Selected

-- P holds of what the inputs tell, if they tell it
abbrev pub WhereBothSeen : Option (List ℕ) → Option (List ℕ) → Option (Option Selected) → (BothSeen → Type 0) → Type 0
WhereBothSeen None reports last P = Unit {0}
WhereBothSeen (Some graphs) None last P = Unit {0}
WhereBothSeen (Some graphs) (Some reports) None P = Unit {0}
WhereBothSeen (Some graphs) (Some reports) (Some last) P = P (record { graphs = graphs; reports = reports; last = last })

-- what is told of each of the two inputs
abbrev pub graph_seen : BothSeen → Seen
graph_seen seen = record { held = seen.graphs; last = seen.last }

abbrev pub report_seen : BothSeen → Seen
report_seen seen = record { held = seen.reports; last = seen.last }

-- the bytes taken of the graph text, and those left where it is the selected input
abbrev pub graphs_taken : InputNames → BothSeen → List ℕ
graphs_taken names seen = taken names.graph (graph_seen seen)

abbrev pub graphs_left : InputNames → BothSeen → Option (List ℕ)
graphs_left names seen = left_of names.graph seen.last

-- the graph text is the selected input at the end
abbrev pub IsAtGraphs : InputNames → BothSeen → Type 0
IsAtGraphs names seen = IsSome (graphs_left names seen)

-- the bytes taken of the text of reports, where it is the selected input
abbrev pub reports_taken : InputNames → BothSeen → List ℕ
reports_taken names seen = taken names.report (report_seen seen)

-- the text is the lines of those of these blocks that have a text
abbrev pub AreLines : List ℕ → List TextBlock → List ℕ → Type 0
AreLines reports shown text = (outcomes : List Outcome) × ArePrinted reports shown outcomes text

-- the text is the lines of some first ones of these blocks
abbrev pub AreFirstLines : List ℕ → List TextBlock → List ℕ → Type 0
AreFirstLines reports shown text = (n : ℕ) × AreLines reports (take n shown) text

-- the text is a beginning of the lines of some first ones of these blocks
abbrev pub BeginsLines : List ℕ → List TextBlock → List ℕ → Type 0
BeginsLines reports shown text = (rest : List ℕ) × AreFirstLines reports shown (text ++ rest)

-- the text is all that is printed for these blocks, which are all, and the status is that of its outcomes
abbrev pub AreAllLines : List ℕ → Status → List TextBlock → List ℕ → Type 0
AreAllLines reports status shown text = (outcomes : List Outcome) × AreAllPrinted shown reports outcomes text
    × (status ≡ status_of_all (length shown) (length (report_texts reports)) outcomes)

-- the same for a graph text
abbrev pub IsPrintedWith : List ℕ → List ℕ → Status → List ℕ → Type 0
IsPrintedWith graphs reports status text = AreAllLines reports status (blocks graphs) text

-- the text is a beginning of all that is printed
abbrev pub BeginsPrinted : List ℕ → List ℕ → List ℕ → Type 0
BeginsPrinted graphs reports text = (rest : List ℕ) × (outcomes : List Outcome) × IsPrinted graphs reports outcomes (text ++ rest)

-- the text is a beginning of what may be printed after these bytes: of lines of blocks, and where nothing is left also of all
abbrev pub BeginsAt : List ℕ → List ℕ → Option (List ℕ) → List ℕ → Type 0
BeginsAt reports bytes left text =
    BeginsLines reports (blocks_at bytes left) text ⊎ ((left ≡ Some []) × BeginsPrinted bytes reports text)

-- what a run with this status took of its inputs
pub record Reads (names : InputNames) (status : Status) (seen : BothSeen) : Type 0 where
  pub graph : TakesFirst names.graph (graph_seen seen)
  pub report : TakesFirst names.report (report_seen seen)
  pub reports_first : IsAtGraphs names seen → length seen.reports < 2 ^ 30
  pub ended : IsDone status → (graphs_left names seen ≡ Some []) × (length seen.graphs < 2 ^ 30)
  pub long : status ≡ Long → (length (reports_taken names seen) ≡ 2 ^ 30) ⊎ (length (graphs_taken names seen) ≡ 2 ^ 30)
  pub verdict : IsDone status → (text : List ℕ) × IsPrintedWith seen.graphs seen.reports status text

-- what a run with this status wrote
pub record Writes (names : InputNames) (status : Status) (out_rose : Type 0) (seen : BothSeen) (text : List ℕ) : Type 0 where
  pub done : IsDone status → IsPrintedWith seen.graphs seen.reports status text
  pub nothing : graphs_left names seen ≡ None → text ≡ []
  pub long : status ≡ Long → ((length (reports_taken names seen) ≡ 2 ^ 30) × (text ≡ []))
      ⊎ ((length (graphs_taken names seen) ≡ 2 ^ 30) × AreLines seen.reports (complete (graphs_taken names seen)) text)
  pub fault : status ≡ Fault → IsAtGraphs names seen → BeginsAt seen.reports (graphs_taken names seen) (graphs_left names seen) text
  pub written : status ≡ Fault → IsAtGraphs names seen → (out_rose → ⊥) → AreLines seen.reports (complete (graphs_taken names seen)) text
  pub memory : status ≡ Memory → IsAtGraphs names seen → AreFirstLines seen.reports (blocks_at (graphs_taken names seen) (graphs_left names seen)) text
