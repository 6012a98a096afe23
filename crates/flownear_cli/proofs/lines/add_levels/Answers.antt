use Rattle.std.proofs.Common.{◌≡◌, ℕ, List, ◌++◌, ap, ◌∙◌, arith, ℤ, to_z, of_z, w64}
use Rattle.std.proofs.lemmas.Int.{ints}
use Rattle.error_flow.specs.Certificate.{level_at}
use Rattle.flownear_cli.specs.NearText.{level_line}
use Rattle.flownear_cli.proofs.LineFields.{items_more}
use Rattle.flownear_cli.proofs.lines.add_levels.Goals as goal

pub loop-v-preserved : goal.loop-v-preserved
loop-v-preserved c =
    let told : ℕ → List ℕ = λ v. level_line c.args.labels.now v (level_at c.args.levels.now v) in
    let read : to_z w64 (of_z w64 (level_at c.args.levels.now c.loop-v.v)) ≡ level_at c.args.levels.now c.loop-v.v = omega (arith, ints) in (
      omega (arith, c.vertices-v-end.ensures.vertices),
      c.in_ok-add_level_line.ensures
          ∙ ap (λ (level : ℤ). c.loop-v.text.items ++ level_line c.args.labels.now c.loop-v.v level) read
          ∙ ap (λ (x : List ℕ). x ++ told c.loop-v.v) c.loop-v.invariant.1
          ∙ items_more told c.args.text.now.items c.loop-v.v,
    )
