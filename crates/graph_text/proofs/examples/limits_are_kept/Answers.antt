-- long texts, by computation
use Rattle.std.proofs.Common.{refl}
use Rattle.std.specs.Fmt.{digits}
use Rattle.graph_text.proofs.examples.limits_are_kept.Goals as goal

pub returns : goal.returns
unfolding digits
returns c = record { constraints = refl; again = refl; long = refl }
