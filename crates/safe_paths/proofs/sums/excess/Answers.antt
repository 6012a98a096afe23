use Rattle.std.proofs.Common.{◌<◌, length, length-drop, slice_index, sym, ap, subst, arith}
use Rattle.std.specs.Prelude.{All}
use Rattle.std.proofs.lemmas.Int.{ints}
use Rattle.std.proofs.lemmas.List.{take_rest}
use Rattle.std.proofs.lemmas.List.Elements.{All-drop, All-weaker}
use Rattle.decomposition.specs.Graph.{edge_count}
use Rattle.safe_paths.specs.Sums.{passed}
use Rattle.safe_paths.proofs.Edges.{run-edges, run-few}
use Rattle.safe_paths.proofs.SafeSums.{excess-sums}
use Rattle.safe_paths.proofs.sums.excess.Goals as goal

pub carried-requires-clause-inside : goal.carried-requires-clause-inside
carried-requires-clause-inside c = All-weaker (λ e. e < edge_count c.args.net.now) (λ e. e < length c.args.flow.now) (λ e h. omega arith) c.args.run.now (run-edges c.args.net.now c.args.run.now c.requires.run)

pub carried-requires-clause-few : goal.carried-requires-clause-few
carried-requires-clause-few c = omega (arith, run-few c.args.net.now c.edges.ensures.net c.args.run.now c.requires.run)

pub passed-requires-clause-inside : goal.passed-requires-clause-inside
passed-requires-clause-inside c =
    subst (All (λ e. e < edge_count c.args.net.now)) (sym (take_rest c.args.run.now 1))
    (All-drop (λ e. e < edge_count c.args.net.now) 1 c.args.run.now (run-edges c.args.net.now c.args.run.now c.requires.run))

pub passed-requires-clause-short : goal.passed-requires-clause-short
passed-requires-clause-short c =
    omega (arith, run-few c.args.net.now c.edges.ensures.net c.args.run.now c.requires.run, ap length (take_rest c.args.run.now 1), length-drop 1 c.args.run.now)

pub returns : goal.returns
returns c =
    let rest = ap (passed c.args.net.now (slice_index c.args.flow.now)) (take_rest c.args.run.now 1) in
    let is = excess-sums c.args.net.now c.edges.ensures.net (slice_index c.args.flow.now) c.args.run.now c.requires.run in
    omega (arith, ints)
