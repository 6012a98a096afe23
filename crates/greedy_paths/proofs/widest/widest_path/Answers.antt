use Rattle.std.proofs.Common.{slice_index, arith}
use Rattle.greedy_paths.proofs.Choosing.{IsWidest-from_first}
use Rattle.greedy_paths.proofs.widest.widest_path.Goals as goal

pub returns-clause-found : goal.returns-clause-found
returns-clause-found c =
    IsWidest-from_first c.args.net.now (slice_index c.args.rest.now) c.greatest_width-width.result c.in_ok-path.path (omega arith) (λ d. omega (arith, c.type_inv.rest d)) c.greatest_width-width.ensures.greatest c.in_ok-path.ensures
