-- The bounds on the error, or that no so many paths cover.
use Rattle.std.proofs.Common.{sym, subst, arith}
use Rattle.decomposition.specs.declared.Mode.TheVariants.{Abs}
use Rattle.flow_models.specs.Problem.{instance}
use Rattle.flow_solver.specs.Halved.{IsHalvedFor}
use Rattle.flow_solver.specs.Right.{SolvedRight}
use Rattle.flow_solver.specs.Searched.{AttemptsAs, IsNoWorseThanBooked, any_error}
use Rattle.flow_solver.proofs.Facts.{not_safe}
use Rattle.flow_solver.proofs.LeastError.{right_never}
use Rattle.flow_solver.proofs.least_error.solve_least_error.Goals as goal

-- what the searches came to, from the first answer
halved : (c : goal.After-halved_by) → IsHalvedFor c.args.asked.nodes c.args.k (instance c.args.net.now c.args.problem.now) c.in_ok-halved-in-Found.halved
halved c =
    let i = instance c.args.net.now c.args.problem.now in
    let first = subst (IsNoWorseThanBooked c.args.k i) c.in-Found.is c.in_ok-paths.ensures.booked in
    record {
      valid = c.requires.valid;
      halves = c.in_ok-halved-in-Found.ensures.halves;
      booked = λ booked books few. omega (arith, c.in_ok-halved-in-Found.ensures.better, first booked books few);
    }

pub returns-in_ok-halved-in-Found-clause-found : goal.returns-in_ok-halved-in-Found-clause-found
returns-in_ok-halved-in-Found-clause-found c = c.halved_by.ensures.found c.args.asked.nodes c.args.k (instance c.args.net.now c.args.problem.now) (halved c)

pub returns-in_ok-halved-in-Found-clause-right : goal.returns-in_ok-halved-in-Found-clause-right
returns-in_ok-halved-in-Found-clause-right c =
    let set = c.args.asked in
    c.halved_by.ensures.right set c.args.k (instance c.args.net.now c.args.problem.now) c.requires.least_error
    (not_safe set (Abs c.args.k) c.requires.ready c.requires.least_error (λ e. let no' : ⊥ = cc in no')) (halved c)

pub returns-in-Refuted-clause-right : goal.returns-in-Refuted-clause-right
returns-in-Refuted-clause-right c =
    let i = instance c.args.net.now c.args.problem.now in
    let set = c.args.asked in
    let refuted = subst (AttemptsAs set.nodes i (any_error c.args.k)) c.in-Refuted.is c.in_ok-paths.ensures.attempts in
    let never = subst (IsNoWorseThanBooked c.args.k i) c.in-Refuted.is c.in_ok-paths.ensures.booked in
    subst (SolvedRight set i) (sym c.without_answer.ensures)
    (right_never set c.args.k i c.in-Refuted.tree c.requires.least_error (not_safe set (Abs c.args.k) c.requires.ready c.requires.least_error (λ e. let no' : ⊥ = cc in no')) c.requires.valid refuted never)
