use Rattle.std.proofs.Common.{arith, refl, sym, subst}
use Rattle.program_runs.proofs.HandedBlocks.{handed-accepted}
use Rattle.flowpaths_cli.specs.Right.{AreBuilt}
use Rattle.flowpaths_cli.proofs.Handed.{handed-refusal, handed-regular}
use Rattle.flowpaths_cli.proofs.Reports.{report_is, reported-more, reported-cut}
use Rattle.flowpaths_cli.proofs.reporting.ReportingWorker.answer.Goals as goal

pub solve_body-requires-clause-built : goal.solve_body-requires-clause-built
solve_body-requires-clause-built g c = let before = c.requires.begun.4 in subst AreBuilt (sym before.settings_are) before.built

pub solve_body-requires-clause-valid : goal.solve_body-requires-clause-valid
solve_body-requires-clause-valid g c = handed-accepted _ _ _ c.requires.handed.1

pub solve_body-requires-clause-numbered : goal.solve_body-requires-clause-numbered
solve_body-requires-clause-numbered g c = handed-refusal _ _ _ c.requires.handed.1

pub write_report-requires : goal.write_report-requires
write_report-requires g c =
    handed-regular c.args.self.now.settings.now.mode c.requires.handed.0 c.args.block c.in_ok-body.labels c.in_ok-body.body
    (let before = c.requires.begun.4 in (subst AreBuilt (sym before.settings_are) before.built).mode) c.requires.handed.1 (omega arith) c.in_ok-body.ensures.regular

pub returns-in_err-write_report-clause-cut : goal.returns-in_err-write_report-clause-cut
returns-in_err-write_report-clause-cut g c stopped =
    reported-cut c.args.self.now c.args.block _ _ _ _
    (λ asked handed. report_is c.args.self.now.settings.now asked c.args.block _ _ handed.is_handed c.in_ok-body.ensures.right c.in_ok-body.ensures.labels
    (handed-regular c.args.self.now.settings.now.mode c.requires.handed.0 c.args.block c.in_ok-body.labels c.in_ok-body.body
    (let before = c.requires.begun.4 in (subst AreBuilt (sym before.settings_are) before.built).mode) c.requires.handed.1 (omega arith) c.in_ok-body.ensures.regular))
    c.in_err-write_report.ensures.err

pub returns-clause-done : goal.returns-clause-done
returns-clause-done g c = (
  _,
  c.in_ok-write_report.ensures.ok,
  λ asked handed first shown text before.
      reported-more first c.args.self.now _ shown text asked _ _ before
      (report_is c.args.self.now.settings.now asked c.args.block _ _ handed.is_handed c.in_ok-body.ensures.right c.in_ok-body.ensures.labels
      (handed-regular c.args.self.now.settings.now.mode c.requires.handed.0 c.args.block c.in_ok-body.labels c.in_ok-body.body
      (subst AreBuilt (sym before.settings_are) before.built).mode c.requires.handed.1 (omega arith) c.in_ok-body.ensures.regular))
      (λ reports is. c.status_after-self.ensures reports _ is refl),
)
