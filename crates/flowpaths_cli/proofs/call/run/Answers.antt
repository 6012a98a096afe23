use Rattle.std.proofs.Common.{refl}
use Rattle.flow_io.specs.Outside.{Rose}
use Rattle.flowpaths_cli.specs.Words.{texts, settings_of}
use Rattle.flowpaths_cli.proofs.Accounts.{early-reads, later-reads, memory-writes}
use Rattle.flowpaths_cli.proofs.GeneratedRuns.{memory-generated, memory-counts}
use Rattle.flowpaths_cli.proofs.call.run.Goals as goal

pub returns-in-Ok-clause-reads : goal.returns-in-Ok-clause-reads
returns-in-Ok-clause-reads g c = later-reads _ c.in-Ok.settings _ _ c.in-Ok.ensures.ok c.run_settings.ensures.reads

pub returns-in-Err-Memory-clause-reads : goal.returns-in-Err-Memory-clause-reads
returns-in-Err-Memory-clause-reads g c = early-reads _ _ _ (refl, refl, refl)

pub returns-in-Err-Memory-clause-writes : goal.returns-in-Err-Memory-clause-writes
returns-in-Err-Memory-clause-writes g c =
    memory-writes (settings_of (texts c.args.words.now)) (λ s. g.I.Inputs.holds c.args.inputs.now s.file) (g.I.Inputs.selected c.args.inputs.now) (g.O.Output.written c.args.out.now)
    (Rose (g.O.Output.faults c.args.out.now) (g.O.Output.faults c.args.out.now))

pub returns-in-Err-Memory-clause-generated : goal.returns-in-Err-Memory-clause-generated
returns-in-Err-Memory-clause-generated g c =
    memory-generated (settings_of (texts c.args.words.now)) c.args.inputs.now (Rose (g.O.Output.faults c.args.out.now) (g.O.Output.faults c.args.out.now))

pub returns-in-Err-Memory-clause-counts : goal.returns-in-Err-Memory-clause-counts
returns-in-Err-Memory-clause-counts g c = memory-counts (settings_of (texts c.args.words.now)) (g.O.Output.written c.args.out.now)
