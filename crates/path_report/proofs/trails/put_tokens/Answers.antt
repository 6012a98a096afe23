use Rattle.std.proofs.Common.{arith}
use Rattle.report_reading.specs.ReportText.{token_line}
use Rattle.path_report.proofs.Putting.{PutsText-next, PutsText-raised, PutsText-stopped}
use Rattle.path_report.proofs.trails.put_tokens.Goals as goal

pub returns-in_err-put_token : goal.returns-in_err-put_token
returns-in_err-put_token g c =
    PutsText-raised c.from_residual.ensures.0
    (PutsText-stopped token_line c.args.tokens.now c.loop-token.token-index _ (omega arith) c.loop-token.invariant c.in_err-put_token.ensures)

pub loop-token-preserved : goal.loop-token-preserved
loop-token-preserved g c =
    PutsText-next token_line c.args.tokens.now c.loop-token.token-index _ (omega arith) c.loop-token.invariant c.in_ok-put_token.ensures
