use Rattle.std.proofs.Common.{◌≡◌, ◌<◌, ◌^◌, ◌∙◌, Err, length, sym, ap, subst, inl, inr}
use Rattle.flow_io.specs.Outside.{Rose}
use Rattle.flowcheck_cli.specs.Checking.{BeginsRight}
use Rattle.program_runs.specs.Inputs.{WhereSeen}
use Rattle.flow_io.proofs.Causes.{Rose-before}
use Rattle.flowcheck_cli.proofs.Accounts.{reads-right, writes-right, reads-stopped, writes-stopped, begins_not_words, stop_not_words}
use Rattle.flowcheck_cli.proofs.call.run_inputs.Goals as goal

pub check_input-requires-clause-may_ask : goal.check_input-requires-clause-may_ask
check_input-requires-clause-may_ask g c = c.read_input.ensures.asks c.args.graph.now c.requires.differ c.requires.may_ask.0

pub returns-in-Ok-clause-reads : goal.returns-in-Ok-clause-reads
returns-in-Ok-clause-reads g c =
    reads-right (record { graph = c.args.graph.now; report = c.args.report.now }) c.as_slice.result.now c.check_input.result _ _ _ _ _ _ _ c.requires.differ
    (subst (λ r. length r < 2 ^ 30) (sym c.as_slice.ensures.value) c.in-Ok.ensures.short)
    (subst (λ r. WhereSeen (g.I.Inputs.holds c.args.inputs.now c.args.report.now) (g.I.Inputs.selected c.read_input.new.inputs) (λ seen. seen.held ≡ r)) (sym c.as_slice.ensures.value) c.in-Ok.ensures.whole)
    c.check_input.ensures.told
    (subst (λ h. BeginsRight c.args.graph.now c.as_slice.result.now c.check_input.result h (g.I.Inputs.selected c.check_input.new.inputs) (g.O.Output.written c.args.out.now) (g.O.Output.written c.check_input.new.out)
    (Rose (g.O.Output.faults c.args.out.now) (g.O.Output.faults c.check_input.new.out))) (c.read_input.ensures.holds c.args.graph.now) c.check_input.ensures.right)

pub returns-in-Ok-clause-writes : goal.returns-in-Ok-clause-writes
returns-in-Ok-clause-writes g c =
    writes-right (record { graph = c.args.graph.now; report = c.args.report.now }) c.as_slice.result.now c.check_input.result _ _ _ _ _ _ _
    (subst (λ r. WhereSeen (g.I.Inputs.holds c.args.inputs.now c.args.report.now) (g.I.Inputs.selected c.read_input.new.inputs) (λ seen. seen.held ≡ r)) (sym c.as_slice.ensures.value) c.in-Ok.ensures.whole)
    c.check_input.ensures.told
    (subst (λ h. BeginsRight c.args.graph.now c.as_slice.result.now c.check_input.result h (g.I.Inputs.selected c.check_input.new.inputs) (g.O.Output.written c.args.out.now) (g.O.Output.written c.check_input.new.out)
    (Rose (g.O.Output.faults c.args.out.now) (g.O.Output.faults c.check_input.new.out))) (c.read_input.ensures.holds c.args.graph.now) c.check_input.ensures.right)

pub returns-in-Err-clause-reads : goal.returns-in-Err-clause-reads
returns-in-Err-clause-reads g c =
    reads-stopped (record { graph = c.args.graph.now; report = c.args.report.now }) c.in-Err.status _ _ _ c.in-Err.ensures.stopped c.requires.differ c.read_input.ensures.first c.read_input.ensures.only
    (λ is. c.read_input.ensures.long (c.in-Err.is ∙ ap Err is))

pub returns-in-Err-clause-writes : goal.returns-in-Err-clause-writes
returns-in-Err-clause-writes g c =
    writes-stopped (record { graph = c.args.graph.now; report = c.args.report.now }) c.in-Err.status _ _ _ _ _ c.in-Err.ensures.stopped c.requires.differ c.read_input.ensures.first c.read_input.ensures.only
    (λ is. c.read_input.ensures.long (c.in-Err.is ∙ ap Err is))

pub returns-in-Ok-clause-not_words : goal.returns-in-Ok-clause-not_words
returns-in-Ok-clause-not_words g c is = begins_not_words _ _ _ _ _ _ _ _ c.check_input.ensures.right is

pub returns-in-Ok-clause-fault : goal.returns-in-Ok-clause-fault
returns-in-Ok-clause-fault g c faulty = elim (c.check_input.ensures.fault faulty) [
  | inl read ↦ inl (Rose-before _ _ _ c.read_input.ensures.later read)
  | inr wrote ↦ inr wrote
]

pub returns-in-Err-clause-not_words : goal.returns-in-Err-clause-not_words
returns-in-Err-clause-not_words g c is = stop_not_words c.in-Err.status c.in-Err.ensures.stopped is

pub returns-in-Err-clause-fault : goal.returns-in-Err-clause-fault
returns-in-Err-clause-fault g c faulty = inl (c.read_input.ensures.fault (c.in-Err.is ∙ ap Err faulty))
