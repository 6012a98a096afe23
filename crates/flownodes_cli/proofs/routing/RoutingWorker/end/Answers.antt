use Rattle.std.proofs.Common.{refl, ◌∙◌}
use Rattle.flownodes_cli.proofs.Routed.{told-none, told-done, told-cut, status-done}
use Rattle.flownodes_cli.proofs.routing.RoutingWorker.end.Goals as goal

pub returns-in_default-clause-done : goal.returns-in_default-clause-done
returns-in_default-clause-done g c = (tt, told-none c.args.self.now c.in_default.is _)

pub returns-in_err-write-clause-cut : goal.returns-in_err-write-clause-cut
returns-in_err-write-clause-cut g c stopped =
    told-cut c.args.self.now c.in-Some.told c.in-Some.is c.deref.result.now (c.deref.ensures.value ∙ c.in_ok-routes.ensures) _ refl _ _ c.in_err-write.ensures.err

pub returns-clause-done : goal.returns-clause-done
returns-clause-done g c = (
  status-done c.in-Some.told.report c.status.result c.status.ensures,
  told-done c.args.self.now c.in-Some.told c.in-Some.is c.deref.result.now (c.deref.ensures.value ∙ c.in_ok-routes.ensures) c.status.result c.status.ensures _ _ c.in_ok-write.ensures.ok,
)
