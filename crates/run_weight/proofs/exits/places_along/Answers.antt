use Rattle.std.proofs.Common.{arith}
use Rattle.decomposition.proofs.Runs.{run-place}
use Rattle.run_weight.proofs.exits.places_along.Goals as goal

pub tail-requires : goal.tail-requires
tail-requires c = run-place c.args.net.now c.args.run.now c.loop-k.k c.requires.run (omega arith)
