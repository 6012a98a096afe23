use Rattle.std.proofs.Common.{◌∙◌}
use Rattle.flowpaths_cli.proofs.GeneratedRuns.{few-blocks, ends-told, writes-nothing, writes-told}
use Rattle.flowpaths_cli.proofs.Tallies.{counted-nothing}
use Rattle.flowpaths_cli.proofs.generated.report_generated.Goals as goal

pub returns-in_default-clause-writes : goal.returns-in_default-clause-writes
returns-in_default-clause-writes g c = writes-nothing c.args.settings.now c.args.seed (g.O.Output.written c.args.out.now)

pub run_text-requires-clause-begun : goal.run_text-requires-clause-begun
run_text-requires-clause-begun g c = counted-nothing _ c.requires.built c.requires.exact c.new.ensures

pub run_text-requires-clause-few : goal.run_text-requires-clause-few
run_text-requires-clause-few g c = few-blocks c.as_slice.result.now c.args.seed (c.as_slice.ensures ∙ c.in-Ok.ensures.text)

pub returns-clause-ends : goal.returns-clause-ends
returns-clause-ends g c =
    ends-told c.args.settings.now c.as_slice.result.now c.run_text.result (g.O.Output.written c.args.out.now) _ _ c.run_text.ensures.right c.run_text.ensures.fault

pub returns-clause-writes : goal.returns-clause-writes
returns-clause-writes g c =
    writes-told c.args.settings.now c.args.seed c.as_slice.result.now c.requires.exact (c.as_slice.ensures ∙ c.in-Ok.ensures.text) c.run_text.result (g.O.Output.written c.args.out.now) _ c.run_text.ensures.right
