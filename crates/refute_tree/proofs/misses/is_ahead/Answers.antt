use Rattle.std.proofs.Common.{◌-◌, arith}
use Rattle.refute_tree.proofs.Taking.{walk_begun}
use Rattle.refute_tree.proofs.misses.is_ahead.Goals as goal

pub leads_to-requires-clause-begun : goal.leads_to-requires-clause-begun
leads_to-requires-clause-begun c = walk_begun c.args.net.now c.args.one.now (c.loop-k.k - 1) c.requires.kept (omega arith)
