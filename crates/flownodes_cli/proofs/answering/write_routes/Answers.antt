use Rattle.std.proofs.Common.{◌∙◌}
use Rattle.flownodes_cli.proofs.Solved.{few-blocks, solved-answered}
use Rattle.flownodes_cli.proofs.answering.write_routes.Goals as goal

pub run_text-requires-clause-few : goal.run_text-requires-clause-few
run_text-requires-clause-few g c = few-blocks c.args.graph.now c.as_slice.result.now c.len.ensures.graph (c.as_slice.ensures ∙ c.in-Ok.ensures)

pub returns-clause-written : goal.returns-clause-written
returns-clause-written g c =
    solved-answered c.args.graph.now c.len.ensures.graph c.as_slice.result.now (c.as_slice.ensures ∙ c.in-Ok.ensures) c.run_text.result _ _ c.run_text.ensures.right
