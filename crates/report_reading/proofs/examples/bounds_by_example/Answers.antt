-- by computation
use Rattle.std.proofs.Common.{refl}
use Rattle.std.specs.Fmt.{digits}
use Rattle.report_reading.proofs.examples.bounds_by_example.Goals as goal

pub returns : goal.returns
unfolding digits
returns c = record { text = refl; regular = refl; missing = refl; extra = refl }
