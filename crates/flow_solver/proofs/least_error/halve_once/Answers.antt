-- An answer lowers the upper bound, and a refutation raises the lower one.
use Rattle.std.proofs.Common.{◌+◌, ◌/◌, subst, sym, arith}
use Rattle.flow_models.specs.Problem.{instance}
use Rattle.flow_solver.specs.Halved.{IsSpentBetween}
use Rattle.flow_solver.specs.Searched.{AttemptsAs}
use Rattle.flow_solver.proofs.Halving.{between_found, between_refuted, half}
use Rattle.flow_solver.proofs.least_error.halve_once.Goals as goal

pub returns-in-Found-clause-between : goal.returns-in-Found-clause-between
returns-in-Found-clause-between c =
    let i = instance c.args.net.now c.args.problem.now in
    let h = c.args.halved in
    let limit = (h.lower + h.upper) / 2 in
    let found = subst (AttemptsAs c.args.nodes i (half c.args.k limit)) c.in-Found.is c.in_ok-paths.ensures in
    record {
      between = between_found c.args.nodes c.args.k i h.paths c.in-Found.paths h.lower h.upper limit c.error_of.result h.cert c.requires.few c.requires.between.between (omega (arith, c.requires.apart)) found (sym c.error_of.ensures);
      spent = subst (λ t. IsSpentBetween c.args.nodes c.args.k i h.lower c.error_of.result t) (sym c.requires.goes_on) tt;
    }

pub returns-in-Refuted-clause-between : goal.returns-in-Refuted-clause-between
returns-in-Refuted-clause-between c =
    let i = instance c.args.net.now c.args.problem.now in
    let h = c.args.halved in
    let limit = (h.lower + h.upper) / 2 in
    let refuted = subst (AttemptsAs c.args.nodes i (half c.args.k limit)) c.in-Refuted.is c.in_ok-paths.ensures in
    record {
      between = between_refuted c.args.nodes c.args.k i h.paths h.lower h.upper limit h.cert c.in-Refuted.tree c.requires.valid c.requires.between.between (omega (arith, c.requires.apart)) refuted;
      spent = subst (λ t. IsSpentBetween c.args.nodes c.args.k i (limit + 1) h.upper t) (sym c.requires.goes_on) tt;
    }
