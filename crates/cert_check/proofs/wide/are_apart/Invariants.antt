use Rattle.std.proofs.Common.{◌↔◌, drop}
use Rattle.decomposition.specs.Width.{IsApart}
use Rattle.cert_check.proofs.wide.are_apart.Given as goal

abbrev pub invariant-loop-i : goal.invariant-loop-i
invariant-loop-i l = IsApart l.net (drop l.i l.edges) ↔ IsApart l.net l.edges
