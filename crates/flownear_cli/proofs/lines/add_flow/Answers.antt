use Rattle.std.proofs.Common.{ℕ, List, ◌++◌, slice_index, length, ap, ◌∙◌, arith}
use Rattle.flownear_cli.specs.NearText.{flow_line}
use Rattle.flownear_cli.proofs.LineFields.{items_more}
use Rattle.flownear_cli.proofs.lines.add_flow.Goals as goal

pub loop-e-preserved : goal.loop-e-preserved
loop-e-preserved c =
    let told : ℕ → List ℕ = λ e. flow_line c.args.labels.now e (slice_index c.args.flow.now e) in (
      omega (arith, ap length c.edges.ensures.edges),
      c.in_ok-add_flow_line.ensures
          ∙ ap (λ (x : List ℕ). x ++ told c.loop-e.e) c.loop-e.invariant.1
          ∙ items_more told c.args.text.now.items c.loop-e.e,
    )
