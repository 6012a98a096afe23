use Rattle.std.proofs.Common.{refl}
use Rattle.flowcheck_cli.proofs.Growing.{checks-nothing}
use Rattle.flowcheck_cli.proofs.checking.Checking.of.Goals as goal

pub returns-clause-begun : goal.returns-clause-begun
returns-clause-begun c = checks-nothing _ c.model_in.ensures c.of.ensures refl refl c.requires
