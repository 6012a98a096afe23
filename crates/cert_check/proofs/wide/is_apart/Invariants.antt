use Rattle.std.proofs.Common.{◌↔◌, drop}
use Rattle.decomposition.specs.Width.{AreApart}
use Rattle.cert_check.proofs.wide.is_apart.Given as goal

abbrev pub invariant-loop-f : goal.invariant-loop-f
invariant-loop-f l = AreApart l.net l.e (drop l.f-index l.others) ↔ AreApart l.net l.e l.others
