use Rattle.std.specs.Prelude.{◌&&◌}
use Rattle.path_cover.specs.Cut.{leaves, AreThose}
use Rattle.dag_net.specs.Marks.{is_set}
use Rattle.path_cover.proofs.covers.leaving.Given as goal

abbrev pub invariant-loop-e : goal.invariant-loop-e
invariant-loop-e l = AreThose (λ e. is_set l.needed e && leaves l.net (is_set l.marked) e) l.e l.edges
