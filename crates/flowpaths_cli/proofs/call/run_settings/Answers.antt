use Rattle.std.proofs.Common.{◌≡◌, refl}
use Rattle.flow_io.specs.Outside.{Rose}
use Rattle.flowpaths_cli.specs.Generated.{EndsSolved, WritesCounts}
use Rattle.flowpaths_cli.specs.Run.{WhereWritten}
use Rattle.flowpaths_cli.proofs.GeneratedRuns.{without-seed, with-seed}
use Rattle.flowpaths_cli.proofs.call.run_settings.Goals as goal

pub report_generated-requires-clause-exact : goal.report_generated-requires-clause-exact
report_generated-requires-clause-exact g c = (rw c.in-Some.is at c.requires.built.demo).0

pub report_generated-requires-clause-seed : goal.report_generated-requires-clause-seed
report_generated-requires-clause-seed g c = (rw c.in-Some.is at c.requires.built.demo).1

pub returns-in-Some-clause-reads : goal.returns-in-Some-clause-reads
returns-in-Some-clause-reads g c = without-seed c.args.settings.now.demo c.in-Some.seed _ c.in-Some.is

pub returns-in-Some-clause-writes : goal.returns-in-Some-clause-writes
returns-in-Some-clause-writes g c = without-seed c.args.settings.now.demo c.in-Some.seed _ c.in-Some.is

pub returns-in-Some-clause-generated : goal.returns-in-Some-clause-generated
returns-in-Some-clause-generated g c = with-seed c.args.settings.now.demo c.in-Some.seed
    (λ seed. (c.args.inputs.now ≡ c.args.inputs.now) × EndsSolved c.report_generated.result (Rose (g.O.Output.faults c.args.out.now) (g.O.Output.faults c.report_generated.new.out)))
    c.in-Some.is (refl, c.report_generated.ensures.ends)

pub returns-in-Some-clause-counts : goal.returns-in-Some-clause-counts
returns-in-Some-clause-counts g c = with-seed c.args.settings.now.demo c.in-Some.seed
    (λ seed. WhereWritten (g.O.Output.written c.args.out.now) (g.O.Output.written c.report_generated.new.out) (WritesCounts c.args.settings.now seed c.report_generated.result))
    c.in-Some.is c.report_generated.ensures.writes
