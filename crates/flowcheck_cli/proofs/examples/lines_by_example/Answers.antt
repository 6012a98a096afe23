-- by computation
use Rattle.std.proofs.Common.{refl}
use Rattle.std.specs.Fmt.{digits}
use Rattle.flowcheck_cli.proofs.examples.lines_by_example.Goals as goal

pub returns : goal.returns
unfolding digits
returns c = record { yes = refl; no = refl; unread = refl; counts = refl }
