use Rattle.std.proofs.Common.{ℕ, List, ◌≤◌, ◌++◌, slice_index, refl, sym, ap, subst, ◌∙◌, append_assoc}
use Rattle.std.specs.Prelude.{All}
use Rattle.std.proofs.lemmas.Result.{on_ok_weaker}
use Rattle.decomposition.specs.Flow.{IsBalanced, Decomposes}
use Rattle.run_weight.specs.Loads.{IsLeastLoad}
use Rattle.flowruns_cli.specs.RunText.{least_line, path_lines, run_text}
use Rattle.flowruns_cli.proofs.Loads.{load-least}
use Rattle.flowruns_cli.proofs.RunLines.{paths_told}
use Rattle.flowruns_cli.proofs.Weights.{weights_small, weights_balanced}
use Rattle.flowruns_cli.proofs.answers.add_run.Goals as goal

pub least_load-least-requires-clause-small : goal.least_load-least-requires-clause-small
least_load-least-requires-clause-small c =
    subst (λ (ws : List ℕ). All (λ w. w ≤ 1000000000000) ws) (sym c.requires.weights) (weights_small c.args.graph.now c.requires.valid)

pub least_load-least-requires-clause-balanced : goal.least_load-least-requires-clause-balanced
least_load-least-requires-clause-balanced c =
    subst (λ (ws : List ℕ). IsBalanced c.args.graph.now.net (slice_index ws)) (sym c.requires.weights) (weights_balanced c.args.graph.now c.requires.valid)

pub lighten-requires-clause-small : goal.lighten-requires-clause-small
lighten-requires-clause-small c =
    subst (λ (ws : List ℕ). All (λ w. w ≤ 1000000000000) ws) (sym c.requires.weights) (weights_small c.args.graph.now c.requires.valid)

pub add_paths-requires : goal.add_paths-requires
add_paths-requires c =
    record { runs = paths_told c.args.graph.now c.requires.valid c.in_ok-shown.shown c.in_ok-shown.ensures.lightest.decomposes.answer }

pub returns : goal.returns
returns c =
    let graph = c.args.graph.now in
    let run = c.args.run.now in
    let least = c.least_load-least.result in
    let shown = c.in_ok-shown.shown in
    on_ok_weaker c.add_paths.result
    (λ last. (
      run_text graph.labels run least shown,
      record {
        least = least;
        shown = shown;
        is_least = subst (λ (ws : List ℕ). IsLeastLoad graph.net (slice_index ws) run least) c.requires.weights c.least_load-least.ensures.least;
        decomposes = subst (λ (ws : List ℕ). Decomposes graph.net (slice_index ws) shown) c.requires.weights c.in_ok-shown.ensures.lightest.decomposes;
        attains = load-least graph.net (slice_index c.args.weights.now) run least shown c.least_load-least.ensures.least c.in_ok-shown.ensures.lightest;
        order = c.in_ok-shown.ensures.order;
        once = c.in_ok-shown.ensures.once;
        is_text = refl;
      },
      last
          ∙ ap (λ (x : List ℕ). x ++ path_lines graph.labels shown) c.in_ok-add_weighted.ensures
          ∙ append_assoc c.args.text.now.items (least_line graph.labels least run) (path_lines graph.labels shown),
    ))
    c.add_paths.ensures
