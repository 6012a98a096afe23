use Rattle.std.proofs.Common.{◌+◌, ◌^◌, ◌≤◌, [], length, subst, arith, refl}
use Rattle.flow_io.proofs.Adding.{Adds-nothing}
use Rattle.flowcheck_cli.specs.CheckLines.{outcome_line}
use Rattle.flowcheck_cli.specs.Outcomes.{IsOutcome}
use Rattle.flowcheck_cli.specs.ReportTexts.{report_texts}
use Rattle.flowcheck_cli.proofs.Growing.{checks-more, checks-same, checks-cut, index-handed}
use Rattle.flowcheck_cli.proofs.checking.CheckingWorker.answer.Goals as goal

pub returns-in_default-clause-done : goal.returns-in_default-clause-done
returns-in_default-clause-done g c = (
  [],
  Adds-nothing _,
  λ asked handed first shown before h.
      checks-same first c.args.self.now _ shown before asked h c.in_default.ensures.none.0 c.in_default.ensures.none.1 refl refl refl refl,
)

pub returns-in_err-write_outcome-clause-cut : goal.returns-in_err-write_outcome-clause-cut
returns-in_err-write_outcome-clause-cut g c stopped =
    let text = c.in-Some.text.bytes.now in
    checks-cut c.args.self.now c.args.block text (report_texts c.take_text.new.self.bytes) c.in_ok-outcome.outcome _ _
    (λ asked handed. subst (λ at. IsOutcome c.args.self.now.mode asked at text c.in_ok-outcome.outcome) c.in-Some.ensures.line (c.in_ok-outcome.ensures asked handed))
    c.in-Some.ensures.texts c.in_err-write_outcome.ensures.err

pub returns-clause-done : goal.returns-clause-done
returns-clause-done g c = (
  outcome_line c.args.block.index c.in_ok-outcome.outcome,
  c.in_ok-write_outcome.ensures.ok,
  λ asked handed first shown before h.
      let text = c.in-Some.text.bytes.now in
      let short : c.take_text.new.self.line + length c.take_text.new.self.bytes ≤ 2 ^ 30 = omega (arith, h.left_short, c.take_text.ensures.within) in
      checks-more first c.args.self.now _ shown before asked text c.in_ok-outcome.outcome c.args.block.index (index-handed c.args.self.now.mode asked c.args.block handed) h
      (subst (λ at. IsOutcome c.args.self.now.mode asked at text c.in_ok-outcome.outcome) c.in-Some.ensures.line (c.in_ok-outcome.ensures asked handed))
      c.in-Some.ensures.texts c.in-Some.ensures.next short refl refl refl c.status_after-self.ensures,
)
