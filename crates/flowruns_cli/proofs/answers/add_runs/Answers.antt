use Rattle.std.proofs.Common.{◌≡◌, ◌≤◌, ℕ, List, ◌++◌, slice_index, sym, subst, ◌∙◌, arith}
use Rattle.std.specs.Prelude.{All}
use Rattle.decomposition.specs.Flow.{IsBalanced}
use Rattle.flowruns_cli.specs.RightTexts.{TellsRun}
use Rattle.flowruns_cli.proofs.RunTexts.{tells-next}
use Rattle.flowruns_cli.proofs.Weights.{weights_small, weights_balanced}
use Rattle.flowruns_cli.proofs.answers.add_runs.Goals as goal

pub decomposition_of-requires-clause-small : goal.decomposition_of-requires-clause-small
decomposition_of-requires-clause-small c =
    subst (λ (ws : List ℕ). All (λ w. w ≤ 1000000000000) ws) (sym (c.deref.ensures.value ∙ c.in_ok-weights.ensures)) (weights_small c.args.graph.now c.requires.valid)

pub decomposition_of-requires-clause-balanced : goal.decomposition_of-requires-clause-balanced
decomposition_of-requires-clause-balanced c =
    subst (λ (ws : List ℕ). IsBalanced c.args.graph.now.net (slice_index ws)) (sym (c.deref.ensures.value ∙ c.in_ok-weights.ensures)) (weights_balanced c.args.graph.now c.requires.valid)

pub loop-k-preserved : goal.loop-k-preserved
loop-k-preserved c =
    tells-next c.args.graph.now c.loop-k.k c.args.text.now.items c.loop-k.text.items c.add_run.new.text.items (omega arith) c.loop-k.invariant
    (subst (λ (run : List ℕ). (told : List ℕ) × TellsRun c.args.graph.now run told × (c.add_run.new.text.items ≡ c.loop-k.text.items ++ told))
    (c.as_slice-run.ensures ∙ c.get.ensures) c.in_ok-add_run.ensures)
