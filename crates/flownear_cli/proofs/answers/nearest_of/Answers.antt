use Rattle.std.proofs.Common.{ℕ, List, ◌≤◌, sym, subst, ◌∙◌}
use Rattle.std.specs.Prelude.{All}
use Rattle.flownear_cli.proofs.Weights.{weights_small}
use Rattle.flownear_cli.proofs.answers.nearest_of.Goals as goal

pub nearest-requires-clause-bounded : goal.nearest-requires-clause-bounded
nearest-requires-clause-bounded c =
    subst (λ (ws : List ℕ). All (λ w. w ≤ 1000000000000) ws) (sym (c.deref.ensures.value ∙ c.in_ok-weights.ensures)) (weights_small c.args.graph.now c.requires.valid)
