use Rattle.std.proofs.Common.{◌∙◌}
use Rattle.subpath_rules.proofs.Overlaps.{agree-pointwise}
use Rattle.subpath_rules.proofs.follows.agree.Goals as goal

pub returns : goal.returns
returns c = c.eq.ensures ∙ agree-pointwise c.args.a.now c.args.b.now c.min-count.result c.min-count.ensures
