-- A better answer lowers the upper bound.
use Rattle.std.proofs.Common.{◌-◌, sym, subst, arith}
use Rattle.std.specs.Prelude.{IfSome}
use Rattle.flow_models.specs.Problem.{instance}
use Rattle.flow_solver.specs.Searched.{IsFoundFor}
use Rattle.flow_solver.proofs.Halving.{between_found, half}
use Rattle.flow_solver.proofs.least_error.lower_by.Goals as goal

pub returns-in-Some-clause-between : goal.returns-in-Some-clause-between
returns-in-Some-clause-between c =
    let i = instance c.args.net.now c.args.problem.now in
    let h = c.args.halved in
    let found = subst (λ a. IfSome a (IsFoundFor i (half c.args.k (h.upper - 1)))) c.in-Some.is c.in_ok-paths.ensures.right in
    record {
      between = between_found c.args.nodes c.args.k i h.paths c.in-Some.paths h.lower h.upper (h.upper - 1) c.error_of.result h.cert c.requires.few c.requires.between.between (omega arith) found (sym c.error_of.ensures);
      spent = tt;
    }
