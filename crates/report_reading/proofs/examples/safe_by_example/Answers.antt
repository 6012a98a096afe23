-- by computation
use Rattle.std.proofs.Common.{refl}
use Rattle.std.specs.Fmt.{digits}
use Rattle.report_reading.proofs.examples.safe_by_example.Goals as goal

pub returns : goal.returns
unfolding digits
returns c = record { text = refl; regular = refl; falling = refl; prefix = refl; twice = refl; apart = refl }
