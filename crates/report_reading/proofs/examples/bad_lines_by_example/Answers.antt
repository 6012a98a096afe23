-- by computation
use Rattle.std.proofs.Common.{refl}
use Rattle.std.specs.Fmt.{digits}
use Rattle.report_reading.proofs.examples.bad_lines_by_example.Goals as goal

pub returns : goal.returns
unfolding digits
returns c = record { right = refl; refused = refl; form = refl; behind = refl; number = refl; name = refl; order = refl; cut = refl }
