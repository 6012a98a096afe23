use Rattle.std.proofs.Common.{[], arith, refl, sym, subst, IsTrue}
use Rattle.flow_io.proofs.Adding.{Adds-nothing}
use Rattle.flowpaths_cli.specs.Right.{IsReportOf}
use Rattle.flowpaths_cli.specs.declared.settings.Settings.{Settings}
use Rattle.flowpaths_cli.proofs.Handed.{handed-refusal, handed-regular}
use Rattle.flowpaths_cli.proofs.Reports.{report_on, report_is}
use Rattle.program_runs.proofs.HandedBlocks.{handed-accepted}
use Rattle.report_terms.specs.NetFacts.{is_mode}
use Rattle.report_reading.specs.ReportText.{text_of}
use Rattle.flownodes_cli.specs.declared.routing.Told.{Told}
use Rattle.flownodes_cli.proofs.Routed.{told-more}
use Rattle.flownodes_cli.proofs.routing.RoutingWorker.answer.Goals as goal

pub solve_body-requires-clause-valid : goal.solve_body-requires-clause-valid
solve_body-requires-clause-valid g c = handed-accepted _ _ _ c.requires.handed.1

pub solve_body-requires-clause-numbered : goal.solve_body-requires-clause-numbered
solve_body-requires-clause-numbered g c = handed-refusal _ _ _ c.requires.handed.1

pub returns-clause-done : goal.returns-clause-done
returns-clause-done g c = (
  [],
  Adds-nothing _,
  λ asked handed first shown text before.
      let s = c.args.self.now.settings.now in
      let known : IsTrue (is_mode s.mode) = subst (λ (t : Settings). IsTrue (is_mode t.mode)) (sym before.settings_now) refl in
      let regular = handed-regular s.mode c.requires.handed.0 c.args.block c.in_ok-body.labels c.in_ok-body.body known c.requires.handed.1 (omega arith) c.in_ok-body.ensures.regular in
      let kept : Told = record { report = report_on s c.args.block c.in_ok-body.body; labels = c.in_ok-body.labels } in
      told-more first c.args.self.now shown text asked kept before
      (subst (λ (t : Settings). IsReportOf t asked kept.report (text_of kept.labels kept.report)) before.settings_now
      (report_is s asked c.args.block _ _ handed.is_handed c.in_ok-body.ensures.right c.in_ok-body.ensures.labels regular))
      regular,
)
