use Rattle.std.proofs.Common.{◌≡◌}
use Rattle.std.specs.Prelude.{Ok}
use Rattle.std.proofs.lemmas.Result.{IfOk-weaker}
use Rattle.flow_models.specs.Problem.{instance}
use Rattle.graph_text.specs.Reading.{instance_of}
use Rattle.cert_check.specs.Verdict.{IsVerdictOn}
use Rattle.flowcheck_cli.specs.Outcomes.{IsBodyVerdict}
use Rattle.flowcheck_cli.specs.Short.{IsSmall}
use Rattle.program_runs.proofs.Problems.{problem_is}
use Rattle.flowcheck_cli.proofs.Judged.{graph-verdict-of, graph-small}
use Rattle.flowcheck_cli.proofs.ReportSizes.{few-short}
use Rattle.flowcheck_cli.proofs.verdicts.verdict_on_graph.Goals as goal

pub check_report-requires-clause-few : goal.check_report-requires-clause-few
check_report-requires-clause-few c = few-short c.args.report.now.body c.requires.few

pub returns-clause-exact : goal.returns-clause-exact
returns-clause-exact c =
    let graph = c.args.graph.now in
    let i = instance graph.net c.in_ok-problem.problem in
    let same : i ≡ instance_of graph = problem_is graph c.in_ok-problem.problem c.requires.valid.instance.distinct c.in_ok-problem.ensures.ranges c.in_ok-problem.ensures.rules in
    IfOk-weaker c.check_report.result (IsVerdictOn c.args.mode i c.args.report.now) (IsBodyVerdict c.args.mode (Ok graph) c.args.report.now.body)
    (λ v says. graph-verdict-of c.args.mode i graph c.args.report.now v same c.requires.model says)
    c.check_report.ensures.exact

pub returns-clause-small : goal.returns-clause-small
returns-clause-small c =
    let i = instance c.args.graph.now.net c.in_ok-problem.problem in
    IfOk-weaker c.check_report.result (IsVerdictOn c.args.mode i c.args.report.now) IsSmall
    (λ v says. graph-small c.args.mode i c.args.report.now v c.requires.few says)
    c.check_report.ensures.exact
