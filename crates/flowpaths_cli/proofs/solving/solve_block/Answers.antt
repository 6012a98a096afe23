-- The problem stands for the instance of the graph, and what the settings ask may be asked.
use Rattle.std.proofs.Common.{◌≡◌, length, ap, sym, subst, arith}
use Rattle.std.specs.Prelude.{IfOk}
use Rattle.decomposition.specs.Instance.{Instance, IsInstance}
use Rattle.flow_models.specs.Problem.{instance}
use Rattle.flow_solver.specs.Asked.{MayBeAsked}
use Rattle.flow_solver.specs.Right.{SolvedRight as RightAsAsked}
use Rattle.flow_solver.specs.declared.asked.Asked.{Asked}
use Rattle.graph_text.specs.Reading.{instance_of}
use Rattle.flowpaths_cli.specs.Right.{SolvedRight}
use Rattle.flowpaths_cli.proofs.MadeReports.{answer_regular, answer_reportable}
use Rattle.program_runs.proofs.Problems.{problem_is}
use Rattle.flowpaths_cli.proofs.solving.solve_block.Goals as goal
use Rattle.flowpaths_cli.proofs.solving.solve_block.Goals.{In_ok-problem, After-drop-problem-2}

same : (c : In_ok-problem) → instance c.args.graph.now.net c.in_ok-problem.problem ≡ instance_of c.args.graph.now
same c = problem_is c.args.graph.now c.in_ok-problem.problem c.requires.valid.distinct c.in_ok-problem.ensures.ranges c.in_ok-problem.ensures.rules

right : (c : After-drop-problem-2) → IfOk c.solve.result (SolvedRight c.args.settings.now (instance_of c.args.graph.now))
right c =
    let i = instance c.args.graph.now.net c.in_ok-problem.problem in
    let asked = subst (λ (a : Asked). IfOk c.solve.result (RightAsAsked a i)) c.asked.ensures c.solve.ensures.right in
    subst (λ (j : Instance). IfOk c.solve.result (SolvedRight c.args.settings.now j)) (same (goal.at.returns-clause-right c).In_ok-problem) asked

pub solve-requires-clause-ready : goal.solve-requires-clause-ready
solve-requires-clause-ready c = subst MayBeAsked (sym c.asked.ensures) c.requires.ready

pub solve-requires-clause-valid : goal.solve-requires-clause-valid
solve-requires-clause-valid c =
    let i = instance c.args.graph.now.net c.in_ok-problem.problem in
    let valid = subst (IsInstance c.args.settings.now.mode) (sym (same (goal.at.solve-requires-clause-valid c).In_ok-problem)) c.requires.valid in
    subst (λ (a : Asked). IsInstance a.mode i) (sym c.asked.ensures) valid

pub solve-requires-clause-few_rules : goal.solve-requires-clause-few_rules
solve-requires-clause-few_rules c =
    omega (arith, ap (λ (j : Instance). length j.rules) (same (goal.at.solve-requires-clause-few_rules c).In_ok-problem), c.requires.few_runs)

pub returns-clause-right : goal.returns-clause-right
returns-clause-right c = right c

pub returns-clause-regular : goal.returns-clause-regular
returns-clause-regular c = answer_regular c.args.graph.now.net c.solve.result c.solve.ensures.found

pub returns-clause-reportable : goal.returns-clause-reportable
returns-clause-reportable c =
    answer_reportable c.args.settings.now (instance_of c.args.graph.now) c.solve.result c.requires.ready c.solve.ensures.found (right c)
