use Rattle.std.proofs.Common.{◌∙◌}
use Rattle.flowpaths_cli.proofs.Tallies.{told-cut}
use Rattle.flowpaths_cli.proofs.generated.CountingWorker.end.Goals as goal

pub returns-in_err-write_whole-clause-cut : goal.returns-in_err-write_whole-clause-cut
returns-in_err-write_whole-clause-cut g c stopped =
    told-cut c.args.self.now _ _ _ (c.as_bytes.ensures.value ∙ c.in_ok-lines.ensures) c.in_err-write_whole.ensures.err
