use Rattle.flownodes_cli.proofs.Outputs.{answered-prefix}
use Rattle.flownodes_cli.proofs.answering.write_all.Goals as goal

pub returns-in-Err-clause-written : goal.returns-in-Err-clause-written
returns-in-Err-clause-written g c = answered-prefix c.args.text.now c.args.status _ _ c.in-Err.ensures.err
