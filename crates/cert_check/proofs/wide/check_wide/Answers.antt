use Rattle.std.proofs.Common.{sym}
use Rattle.flow_models.specs.Problem.{instance}
use Rattle.decomposition.proofs.Antichains.{antichains_bound}
use Rattle.cert_check.proofs.wide.check_wide.Goals as goal

pub returns-then-are_needed_edges-clause-bounds : goal.returns-then-are_needed_edges-clause-bounds
returns-then-are_needed_edges-clause-bounds c = λ says a answer none.
    antichains_bound (instance c.args.net.now c.args.problem.now) c.args.edges.now a
    (record { listed = sym c.if-are_needed_edges.ensures; apart = c.are_apart.ensures.0 says }) answer none
