use Rattle.path_cover.proofs.Sending.{IsEdgeOut-first}
use Rattle.path_cover.proofs.ways.edge_onward.Goals as goal

pub returns : goal.returns
returns c = IsEdgeOut-first c.args.net.now c.args.v c.first_out.result c.first_out.ensures
