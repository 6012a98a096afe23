use Rattle.std.proofs.Common.{refl, subst}
use Rattle.flow_io.specs.Outside.{Rose}
use Rattle.block_runs.specs.Run.{WhereSeen, WhereWritten, Reads, Writes}
use Rattle.flowpaths_cli.specs.Run.{IsOutput, IsOutputWith}
use Rattle.flowpaths_cli.proofs.Accounts.{writes-seen}
use Rattle.flowpaths_cli.proofs.Reports.{reported-nothing}
use Rattle.flowpaths_cli.proofs.call.report_input.Goals as goal

pub run_input-requires-clause-begun : goal.run_input-requires-clause-begun
run_input-requires-clause-begun g c = reported-nothing _ c.requires.built refl

pub returns-clause-reads : goal.returns-clause-reads
returns-clause-reads g c =
    subst (λ name. WhereSeen (g.I.Inputs.holds c.args.inputs.now name) (g.I.Inputs.selected c.run_input.new.inputs) (Reads (IsOutputWith c.args.settings.now) name c.run_input.result))
    c.as_str.ensures c.run_input.ensures.reads

pub returns-clause-writes : goal.returns-clause-writes
returns-clause-writes g c =
    writes-seen c.args.settings.now c.run_input.result _ _ _ _ _
    (subst (λ name. WhereSeen (g.I.Inputs.holds c.args.inputs.now name) (g.I.Inputs.selected c.run_input.new.inputs) (λ seen.
    WhereWritten (g.O.Output.written c.args.out.now) (g.O.Output.written c.run_input.new.out)
    (Writes (IsOutput c.args.settings.now) (IsOutputWith c.args.settings.now) name c.run_input.result (Rose (g.O.Output.faults c.args.out.now) (g.O.Output.faults c.run_input.new.out)) seen)))
    c.as_str.ensures c.run_input.ensures.writes)
