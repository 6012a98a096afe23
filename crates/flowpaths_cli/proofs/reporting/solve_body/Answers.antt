use Rattle.flowpaths_cli.proofs.Acceptance.{built_ready}
use Rattle.flowpaths_cli.proofs.reporting.solve_body.Goals as goal

pub solve_block-requires-clause-ready : goal.solve_block-requires-clause-ready
solve_block-requires-clause-ready c = built_ready c.args.settings.now c.requires.built
