-- What a verdict comes to, step by step.
use Rattle.std.proofs.Common.{◌≡◌, ◌≤◌, ◌<◌, ◌^◌, ℕ, List, arith, Result, Ok, subst, sym, refl, inl, inr}
use Rattle.decomposition.specs.declared.Mode.{Mode}
use Rattle.decomposition.specs.Instance.{Instance}
use Rattle.graph_text.specs.Reading.{read, instance_of}
use Rattle.graph_text.specs.declared.block.Block.{Block}
use Rattle.graph_text.specs.declared.block.RawGraph.{RawGraph}
use Rattle.report_terms.specs.declared.refusal.Refusal.{Refusal}
use Rattle.report_reading.specs.BadLines.{IsTextOf}
use Rattle.report_terms.specs.declared.report.Report.{Report}
use Rattle.report_terms.specs.declared.report.Body.{Body}
use Rattle.report_terms.specs.declared.report.Body.TheVariants.{Refused, Solved as SolvedBody}
use Rattle.cert_check.specs.Verdict.{IsVerdictOn, BodyFailsAt as ClaimFailsAt}
use Rattle.cert_check.specs.declared.report.Verdict.{Verdict}
use Rattle.cert_check.specs.declared.report.Verdict.TheVariants.{Yes, No}
use Rattle.program_runs.specs.HandedBlocks.{labels_of}
use Rattle.flowcheck_cli.specs.Outcomes.{NamesBlock, IsBodyVerdict, IsReportVerdict, IsBlockOutcome, outcome_of}
use Rattle.flowcheck_cli.specs.Short.{HasFewLines, IsSmall}
use Rattle.flowcheck_cli.proofs.ReportSizes.{place-small}

-- a verdict of the checker on a report that names the model is one on its body
graph-verdict : (mode : Mode) (graph : RawGraph) (report : Report) (v : Verdict) → report.mode ≡ mode → IsVerdictOn mode (instance_of graph) report v →
    IsBodyVerdict mode (Ok graph) report.body v
graph-verdict mode graph report Yes same says = says.body
graph-verdict mode graph report (No n) same says = elim says [ inl other ↦ absurd (other.0 same) | inr fails ↦ fails.1 ]

pub graph-verdict-of : (mode : Mode) (i : Instance) (graph : RawGraph) (report : Report) (v : Verdict) → i ≡ instance_of graph → report.mode ≡ mode →
    IsVerdictOn mode i report v → IsBodyVerdict mode (Ok graph) report.body v
graph-verdict-of mode i graph report v is same says = graph-verdict mode graph report v same (subst (λ (j : Instance). IsVerdictOn mode j report v) is says)

body-place : (mode : Mode) (i : Instance) (body : Body) (n : ℕ) → HasFewLines body → ClaimFailsAt mode i body n → (1 ≤ n) × (n < 2 ^ 36)
body-place mode i (Refused refusal) n short fails = subst (λ m. (1 ≤ m) × (m < 2 ^ 36)) (sym fails) (omega arith, omega arith)
body-place mode i (SolvedBody s) n short fails = subst (λ m. (1 ≤ m) × (m < 2 ^ 36)) fails.here (place-small s fails.line short)

-- its line is a small number
pub graph-small : (mode : Mode) (i : Instance) (report : Report) (v : Verdict) → HasFewLines report.body → IsVerdictOn mode i report v → IsSmall v
graph-small mode i report Yes short says = tt
graph-small mode i report (No n) short says = elim says [
  | inl other ↦ subst (λ m. (1 ≤ m) × (m < 2 ^ 36)) (sym other.1) (omega arith, omega arith)
  | inr fails ↦ body-place mode i report.body n short fails.1
]

-- a verdict on the body of a report that names the block and the model is one on the report
report-verdict : (mode : Mode) (block : Block) (report : Report) (v : Verdict) → NamesBlock block report → report.mode ≡ mode →
    IsBodyVerdict mode block.body report.body v → IsReportVerdict mode block report v
report-verdict mode block report Yes names same says = record { names = names; mode_is = same; body = says }
report-verdict mode block report (No n) names same says = inr (inr (record { names = names; mode_is = same; body = says }))

pub report-verdict-of : (mode : Mode) (block : Block) (report : Report) (v : Verdict) (read : Result RawGraph Refusal) → block.body ≡ read →
    NamesBlock block report → report.mode ≡ mode → IsBodyVerdict mode read report.body v → IsReportVerdict mode block report v
report-verdict-of mode block report v read is names same says =
    report-verdict mode block report v names same (subst (λ (r : Result RawGraph Refusal). IsBodyVerdict mode r report.body v) (sym is) says)

-- a verdict on the report of a text is the answer for the text
pub outcome-of-verdict : (mode : Mode) (block : Block) (report : Report) (at : ℕ) (text : List ℕ) (v : Verdict) → IsTextOf (labels_of block.body) report text →
    IsReportVerdict mode block report v → IsBlockOutcome mode block at text (outcome_of at v)
outcome-of-verdict mode block report at text Yes is says = (report, is, says)
outcome-of-verdict mode block report at text (No n) is says = (report, is, (n, says, refl))
