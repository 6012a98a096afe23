use Rattle.std.proofs.Common.{◌≡◌, arith}
use Rattle.std.specs.Prelude.{◌↔◌}
use Rattle.std.proofs.lemmas.Grind.{common_steps}
use Rattle.std.proofs.lemmas.Result.{IfOk-weaker}
use Rattle.flow_models.specs.Problem.{instance}
use Rattle.cert_check.specs.declared.report.Verdict.TheVariants.{Yes}
use Rattle.cert_check.specs.Verdict.{IsSolvedVerdict, IsAccepted}
use Rattle.cert_check.specs.True.{IsTrueReport}
use Rattle.cert_check.proofs.Verdicts.{solved_tells, yes_is}
use Rattle.cert_check.proofs.TrueReports.{body_is_true}
use Rattle.cert_check.proofs.report.check_report.Goals as goal

pub returns-in-Solved-clause-yes : goal.returns-in-Solved-clause-yes
returns-in-Solved-clause-yes c =
    let mode = c.args.mode.now in
    let i = instance c.args.net.now c.args.p.now in
    let r = c.args.report.now in
    let same : r.mode ≡ mode = grind (arith, common_steps) in
    IfOk-weaker c.check_solved.result (IsSolvedVerdict mode i c.in-Solved.solved) (λ v. (v ≡ Yes) ↔ IsAccepted mode i r)
    (λ v says. yes_is mode i r v (solved_tells mode i r c.in-Solved.solved v same c.in-Solved.is says))
    c.check_solved.ensures

pub returns-in-Solved-clause-right : goal.returns-in-Solved-clause-right
returns-in-Solved-clause-right c =
    let mode = c.args.mode.now in
    let i = instance c.args.net.now c.args.p.now in
    let r = c.args.report.now in
    IfOk-weaker c.check_solved.result (λ v. (v ≡ Yes) ↔ IsAccepted mode i r) (λ v. v ≡ Yes → IsTrueReport mode i r.body)
    (λ v says yes. body_is_true mode i c.requires.valid r.body (says.0 yes).body)
    (returns-in-Solved-clause-yes c)
