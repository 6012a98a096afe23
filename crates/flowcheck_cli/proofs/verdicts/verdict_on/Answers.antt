use Rattle.std.proofs.Common.{◌≡◌, subst, arith}
use Rattle.std.specs.Prelude.{Err, MatchBool}
use Rattle.std.proofs.lemmas.Grind.{common_steps}
use Rattle.flowcheck_cli.specs.Outcomes.{NamesBlock, NamesOther}
use Rattle.flowcheck_cli.proofs.Judged.{report-verdict-of}
use Rattle.flowcheck_cli.proofs.verdicts.verdict_on.Goals as goal

pub returns-in-Err-clause-exact : goal.returns-in-Err-clause-exact
returns-in-Err-clause-exact c =
    let block = c.args.block.now in
    let report = c.args.report.now in
    let same : report.mode ≡ c.args.mode = grind (arith, common_steps) in
    let names : NamesBlock block report = subst (λ b. MatchBool b (NamesBlock block report) (NamesOther block report)) c.if-not-names_block.false c.names_block.ensures in
    report-verdict-of c.args.mode block report c.verdict_on_refusal.result (Err c.in-Err.refusal) c.in-Err.is names same (c.verdict_on_refusal.ensures.exact c.args.mode)
