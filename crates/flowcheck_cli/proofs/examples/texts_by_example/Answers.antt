-- by computation
use Rattle.std.proofs.Common.{refl}
use Rattle.flowcheck_cli.proofs.examples.texts_by_example.Goals as goal

pub returns : goal.returns
returns c = record { nothing = refl; two = refl; empty = refl; behind = refl; not_ended = refl; other_lines = refl }
