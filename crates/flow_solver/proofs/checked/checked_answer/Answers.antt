-- What settles a decision, with equal paths made one, is an answer to it.
use Rattle.flow_models.specs.Problem.{instance}
use Rattle.flow_solver.proofs.Attempts.{settled_small, settled_found}
use Rattle.flow_solver.proofs.checked.checked_answer.Goals as goal

pub tidy-requires : goal.tidy-requires
tidy-requires c =
    let valid = c.requires.valid in
    settled_small valid.0 (instance c.args.net.now c.args.problem.now) c.args.decision c.in-Some.answer valid.1 c.requires.few (c.settles.ensures.0 c.if-not-settles.false)

pub returns-clause-right : goal.returns-clause-right
returns-clause-right c =
    let valid = c.requires.valid in
    settled_found valid.0 (instance c.args.net.now c.args.problem.now) c.args.decision c.in-Some.answer c.in_ok-tidy.field-0 valid.1 (c.settles.ensures.0 c.if-not-settles.false)
    c.in_ok-tidy.ensures.paths c.in_ok-tidy.ensures.merged c.in_ok-tidy.ensures.sums c.in_ok-tidy.ensures.order
