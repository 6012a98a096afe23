use Rattle.std.proofs.Common.{ℕ, List, ◌++◌, slice_index, ap, ◌∙◌, append_assoc, arith}
use Rattle.std.proofs.lemmas.List.{take_all}
use Rattle.std.specs.Prelude.{flat_map}
use Rattle.decomposition.proofs.Runs.{run-place, run-length}
use Rattle.graph_text.specs.Labels.{tail_at}
use Rattle.report_reading.specs.Names.{graph_at}
use Rattle.flowruns_cli.proofs.RunLines.{spaced_name, spaced_head, names_along-run}
use Rattle.flowruns_cli.proofs.lines.add_names.Goals as goal

pub head-requires : goal.head-requires
head-requires c = run-place (graph_at c.args.labels.now) c.args.run.now c.loop-e.e-index c.requires.run (omega arith)

pub returns : goal.returns
returns c =
    let labels = c.args.labels.now in
    let run = c.args.run.now in
    let text = c.args.text.now.items in
    let first = spaced_name labels (tail_at labels (slice_index run 0)) in
    c.loop-e.invariant
    ∙ ap (λ (es : List ℕ). (text ++ first) ++ flat_map (spaced_head labels) es) (take_all c.loop-e.e-index run (omega arith))
    ∙ append_assoc text first (flat_map (spaced_head labels) run)
    ∙ ap (λ (x : List ℕ). text ++ x) (names_along-run labels run (run-length (graph_at labels) run c.requires.run))
