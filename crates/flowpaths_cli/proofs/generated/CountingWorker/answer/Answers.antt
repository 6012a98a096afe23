use Rattle.std.proofs.Common.{◌∙◌, [], arith, refl, sym, ap, subst}
use Rattle.flow_io.proofs.Adding.{Adds-nothing}
use Rattle.program_runs.proofs.HandedBlocks.{handed-accepted}
use Rattle.flowpaths_cli.specs.declared.settings.Settings.{Settings}
use Rattle.flowpaths_cli.specs.Right.{AreBuilt}
use Rattle.flowpaths_cli.proofs.Handed.{handed-refusal, handed-regular}
use Rattle.flowpaths_cli.proofs.Reports.{report_is}
use Rattle.flowpaths_cli.proofs.Tallies.{tallied-within, paths-few, counted-more}
use Rattle.flowpaths_cli.proofs.generated.CountingWorker.answer.Goals as goal

pub solve_body-requires-clause-built : goal.solve_body-requires-clause-built
solve_body-requires-clause-built g c = let before = c.requires.begun.4 in subst AreBuilt (sym before.settings_are) before.built

pub solve_body-requires-clause-valid : goal.solve_body-requires-clause-valid
solve_body-requires-clause-valid g c = handed-accepted _ _ _ c.requires.handed.1

pub solve_body-requires-clause-numbered : goal.solve_body-requires-clause-numbered
solve_body-requires-clause-numbered g c = handed-refusal _ _ _ c.requires.handed.1

pub add-requires-clause-within : goal.add-requires-clause-within
add-requires-clause-within g c =
    let begun = c.requires.begun in tallied-within begun.0.settings.now c.args.self.now.tally (begun.1, begun.3, begun.4.tallied)

pub add-requires-clause-few : goal.add-requires-clause-few
add-requires-clause-few g c =
    let before = c.requires.begun.4 in
    paths-few c.args.self.now.settings.now c.args.block.body _ (ap (λ (s : Settings). s.mode) before.settings_are ∙ before.exact) (handed-accepted _ _ _ c.requires.handed.1) c.in_ok-body.ensures.right

pub returns-clause-done : goal.returns-clause-done
returns-clause-done g c = (
  [],
  Adds-nothing _,
  λ asked handed first shown text before.
      counted-more first c.args.self.now _ shown text asked _ _ before
      (report_is c.args.self.now.settings.now asked c.args.block _ _ handed.is_handed c.in_ok-body.ensures.right c.in_ok-body.ensures.labels
      (handed-regular c.args.self.now.settings.now.mode c.requires.handed.0 c.args.block c.in_ok-body.field-0-1 c.in_ok-body.body
      (subst AreBuilt (sym before.settings_are) before.built).mode c.requires.handed.1 (omega arith) c.in_ok-body.ensures.regular))
      (paths-few c.args.self.now.settings.now c.args.block.body _ (ap (λ (s : Settings). s.mode) before.settings_are ∙ before.exact) (handed-accepted _ _ _ c.requires.handed.1) c.in_ok-body.ensures.right)
      (λ reports is. c.add.ensures reports _ is refl),
)
