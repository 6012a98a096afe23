-- The edges of a path are edges, each once.
use Rattle.std.proofs.Common.{ℕ, List, length, ap, arith}
use Rattle.greedy_paths.proofs.Decomposing.{path-inside, path-once}
use Rattle.flow_solver.proofs.thin.with_path.Goals as goal

pub add_along-requires-clause-inside : goal.add_along-requires-clause-inside
add_along-requires-clause-inside c = λ k d h.
    omega (arith, path-inside c.args.net.now c.args.path.now c.requires.path k d h, ap length c.deref_mut.ensures.value, ap (λ (xs : List ℕ). length xs) c.in_ok-sums.ensures.items, c.requires.one_each)

pub add_along-requires-clause-once : goal.add_along-requires-clause-once
add_along-requires-clause-once c = path-once c.args.net.now c.args.path.now c.edges.ensures.net c.requires.path
