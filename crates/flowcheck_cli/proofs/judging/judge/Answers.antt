use Rattle.std.proofs.Common.{◌≤◌, subst, sym, ap, ◌+◌, arith, length}
use Rattle.report_reading.specs.BadLines.{first_bad_line, RefusesAs}
use Rattle.report_reading.specs.declared.read_fault.ReadRefusal.{ReadRefusal}
use Rattle.program_runs.specs.HandedBlocks.{labels_of}
use Rattle.program_runs.proofs.HandedBlocks.{handed-accepted}
use Rattle.flowcheck_cli.proofs.BadPlaces.{bad-place}
use Rattle.flowcheck_cli.specs.Outcomes.{IsBlockOutcome}
use Rattle.graph_text.specs.declared.block.Block.{Block}
use Rattle.flowcheck_cli.proofs.Judged.{outcome-of-verdict}
use Rattle.flowcheck_cli.proofs.ReportSizes.{report-short}
use Rattle.flowcheck_cli.proofs.judging.judge.Goals as goal

pub verdict_on-requires-clause-valid : goal.verdict_on-requires-clause-valid
verdict_on-requires-clause-valid c = handed-accepted c.args.mode c.requires.handed.0 c.args.block.now c.requires.handed.1

pub verdict_on-requires-clause-few : goal.verdict_on-requires-clause-few
verdict_on-requires-clause-few c =
    report-short (labels_of c.args.block.now.body) c.in-Ok.report c.args.text.now c.in-Ok.ensures.found (omega (arith, c.requires.short))

near : (c : goal.In-Err-Refused) → (1 ≤ c.in-Err-Refused.refusal.line) × (c.in-Err-Refused.refusal.line ≤ length c.args.text.now + 2)
near c =
    let labels = labels_of c.args.block.now.body in
    let bad = subst (RefusesAs (first_bad_line labels c.args.text.now)) c.in-Err-Refused.field-0-is c.in-Err-Refused.ensures.refused in
    bad-place labels c.args.text.now c.in-Err-Refused.refusal.line c.in-Err-Refused.refusal.why bad

pub unread-requires-clause-counted : goal.unread-requires-clause-counted
unread-requires-clause-counted c = omega (arith, (near c).0, ap (λ (r : ReadRefusal). r.line) c.in-Err-Refused.refusal-is)

pub unread-requires-clause-near : goal.unread-requires-clause-near
unread-requires-clause-near c = omega (arith, (near c).1, c.requires.short, ap (λ (r : ReadRefusal). r.line) c.in-Err-Refused.refusal-is)

pub returns-in_ok-verdict-in-Ok : goal.returns-in_ok-verdict-in-Ok
returns-in_ok-verdict-in-Ok c asked handed =
    let answer : IsBlockOutcome c.args.mode c.args.block.now c.args.at c.args.text.now c.outcome_of.result =
    subst (IsBlockOutcome c.args.mode c.args.block.now c.args.at c.args.text.now) (sym c.outcome_of.ensures)
    (outcome-of-verdict c.args.mode c.args.block.now c.in-Ok.report c.args.at c.args.text.now c.in_ok-verdict-in-Ok.verdict c.in-Ok.ensures.found c.in_ok-verdict-in-Ok.ensures.exact) in
    subst (λ (b : Block). IsBlockOutcome c.args.mode b c.args.at c.args.text.now c.outcome_of.result) (sym handed.is_handed) answer
