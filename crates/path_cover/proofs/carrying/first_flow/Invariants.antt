use Rattle.dag_net.specs.Marks.{is_set}
use Rattle.path_cover.proofs.Sending.{CarriesBefore}
use Rattle.path_cover.proofs.carrying.first_flow.Given as goal

abbrev pub invariant-loop-e : goal.invariant-loop-e
invariant-loop-e l = CarriesBefore l.net (is_set l.needed) l.flow.items l.e
