use Rattle.std.proofs.Common.{refl, subst, ◌∙◌, inl, inr}
use Rattle.flow_io.specs.Outside.{Rose}
use Rattle.program_runs.proofs.Inputs.{told-same}
use Rattle.program_runs.proofs.Results.{ok_at, err_at}
use Rattle.block_runs.specs.Underway.{EndsRight}
use Rattle.flowcheck_cli.specs.Run.{AreLines, AreAllLines}
use Rattle.flowcheck_cli.proofs.call.check_input.Goals as goal

pub returns-then-is_err-clause-right : goal.returns-then-is_err-clause-right
returns-then-is_err-clause-right g c = inl (refl, err_at c.select.result c.if-is_err.ensures.value c.select.ensures.err, refl)

pub returns-clause-right : goal.returns-clause-right
returns-clause-right g c = inr (
  _,
  ok_at c.select.result c.if-is_err.ensures.value c.select.ensures.ok,
  subst (λ r. EndsRight (AreLines r) (AreAllLines r) c.run_selected.result (g.I.Inputs.selected c.select.new.self) (g.I.Inputs.selected c.run_selected.new.inputs)
      (g.O.Output.written c.args.out.now) (g.O.Output.written c.run_selected.new.out) (Rose (g.O.Output.faults c.args.out.now) (g.O.Output.faults c.run_selected.new.out)))
      c.of-checking.ensures.reports c.run_selected.ensures.right,
)

pub returns-clause-told : goal.returns-clause-told
returns-clause-told g c = told-same _ _ _ c.run_selected.ensures.right.took ∙ c.select.ensures.told
